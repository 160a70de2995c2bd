-- `arithmetic::cut` meets its contract: the quotient of a value, and of zero for a number out of range.
-- Assumes nothing.
use mathlib.Core.Path.{◌≡◌, refl, ap, ◌∙◌}
use mathlib.Core.Bool.{Bool, true, false, cond, and-eq-true_iff}
use Prim.Native.Nat.{◌^◌}
use lib.Dec.{leb}
use lib.IntN.{ℤ, pos}
use lib.Signed.{quot_z}
use mir.Facts.{to_z-of_z}
use borrow.Author.Tests.{leb-true}
use Rattle.value.specs.Range.{in_range, OVER}
use Rattle.arithmetic.specs.Arithmetic.{cut}
use Rattle.value.proofs.Machine.{answered, said}
use Rattle.arithmetic.proofs.cut.Goals as goal

-- the quotient of zero is not taken
guarded : (t : Bool) (v p : ℤ) → cond t (quot_z (cond t v (pos 0)) p) OVER ≡ cond t (quot_z v p) OVER
guarded true v p = refl
guarded false v p = refl

pub quotient-requires : goal.quotient-requires
quotient-requires c =
    let h = (and-eq-true_iff (leb 1 c.args.k) (leb c.args.k 6)).0 c.if-k.true in
    (leb-true 1 _ h.0, leb-true _ 6 h.1)

pub returns-then-k : goal.returns-then-k
unfolding cut OVER
returns-then-k c =
    let t = c.in_range-inside.result in
    let p = pos (10 ^ c.args.k) in
    let tested = said in_range c.ranges.v c.in_range-inside.ensures in
    let of-v = answered c.chosen.type_inv (c.chosen.ensures ∙ ap (λ z. cond t z (pos 0)) (to_z-of_z c.ranges.v)) in
    let of-q = answered c.quotient.type_inv (c.quotient.ensures ∙ ap (λ z. quot_z z p) of-v) in
    answered c.chosen-then-k.type_inv (c.chosen-then-k.ensures ∙ ap (λ z. cond t z OVER) of-q)
    ∙ guarded t c.args.v p
    ∙ rw (c.if-k.true, ← tested)

pub returns-else-k : goal.returns-else-k
unfolding cut OVER
returns-else-k c = rw c.if-k.false
