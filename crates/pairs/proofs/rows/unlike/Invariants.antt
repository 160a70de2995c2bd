-- `pairs::rows::unlike` meets its contract. No value passed over is the key. Assumes nothing.
use Prim.Native.Nat.{ℕ, ◌+◌, ◌*◌, ◌<◌}
use mathlib.Core.Path.{◌≡◌}
use mathlib.Core.Bool.{false}
use lib.IntN.{pos}
use lib.ListN.{get_or}
use Rattle.value.specs.Equality.{eq_z}
use Rattle.pairs.proofs.rows.unlike.Given as goal

abbrev pub invariant-loop-i : goal.invariant-loop-i
invariant-loop-i l = (j : ℕ) → j < l.i → eq_z l.key (get_or l.cells.values.now (l.place + j * l.step) (pos 0)) ≡ false
