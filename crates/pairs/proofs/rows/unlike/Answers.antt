-- `pairs::rows::unlike` meets its contract. No value passed over is the key. Assumes nothing.
use Prim.Native.Nat.{◌+◌, ◌*◌}
use mathlib.Core.Path.{◌≡◌}
use mathlib.Core.Bool.{false}
use mir.Syntax.{w64}
use mir.Val.{to_z, of_z}
use lib.IntN.{pos}
use lib.ListN.{get_or}
use Rattle.value.specs.Equality.{eq_z}
use borrow.Author.Rules.{sfits_of}
use Rattle.pairs.proofs.Keys.{as_bits, one-more}
use Rattle.pairs.proofs.rows.unlike.Goals as goal

pub loop-i-preserved : goal.loop-i-preserved
loop-i-preserved c =
    let a = c.args in
    let k = to_z w64 (of_z w64 a.key) in
    one-more (λ j. eq_z k (get_or a.cells.now.values.now (a.place + j * a.step) (pos 0)) ≡ false) c.loop-i.i c.loop-i.invariant
    (as_bits a.key (get_or a.cells.now.values.now (a.place + c.loop-i.i * a.step) (pos 0)) c.ranges.key (sfits_of c.is_key-1.given) c.if-is_key.false-raw)
