-- `pairs::rows::unlike_fours` meets its contract. No value passed over is the key. Assumes nothing.
use Prim.Native.Nat.{ℕ, ◌+◌, ◌*◌}
use mathlib.Core.Path.{◌≡◌}
use mathlib.Core.Bool.{false}
use mir.Syntax.{w64}
use mir.Val.{to_z, of_z}
use native.Mathlib.Nat.{mul-le-mul_right, add-mul, add_assoc}
use native.Mathlib.Omega.{arith}
use lib.IntN.{pos}
use lib.ListN.{get_or}
use Rattle.value.specs.Equality.{eq_z}
use Rattle.pairs.proofs.Keys.{some_more}
use Rattle.pairs.proofs.rows.unlike_fours.Goals as goal

-- four values more are there
pub among_four-requires : goal.among_four-requires
among_four-requires c =
    let a = c.args in
    let i = 4 * c.loop-four.four in
    (c.requires.0, omega (arith, mul-le-mul_right {m = i + 4} {n = a.count} a.step (omega arith), add-mul i 4 a.step))

pub loop-four-preserved : goal.loop-four-preserved
loop-four-preserved c =
    let a = c.args in
    let k = to_z w64 (of_z w64 a.key) in
    let i = 4 * c.loop-four.four in
    let more : 4 * (c.loop-four.four + 1) ≡ i + 4 = omega arith in
    let e : (j : ℕ) → a.place + i * a.step + j * a.step ≡ a.place + (i + j) * a.step = λ j. rw (add-mul i j a.step) (add_assoc a.place (i * a.step) (j * a.step)) in
    rw more (some_more (λ j. eq_z k (get_or a.values.now (a.place + j * a.step) (pos 0)) ≡ false) i 4 c.loop-four.invariant
    (λ j h. rw (← e j) (c.among_four.ensures c.if-among_four.false j h)))
