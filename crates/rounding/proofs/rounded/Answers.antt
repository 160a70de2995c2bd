-- `rounding::rounded` meets its contract: twice the remainder and one more than the quotient fit, and the test is that of the
-- definition.
-- Assumes nothing.
use mathlib.Core.Path.{◌≡◌, refl, ap, ◌∙◌}
use mathlib.Core.Bool.{Bool, true, false, cond, ◌&&◌, ◌||◌}
use Prim.Native.Nat.{ℕ, ◌-◌, ◌*◌, ◌^◌, ◌<◌}
use native.Mathlib.Omega.{arith}
use lib.Dec.{eqb, lit<}
use lib.IntN.{ℤ, pos, ◌+ℤ◌, ◌-ℤ◌, +ℤ_idr}
use lib.Signed.{mag_shr, mag_rem, lt_z, rem_z, shr_z}
use mir.Syntax.{w64}
use mir.Val.{to_z, of_z, SFits}
use mir.ValLaws.{sfits_le}
use mir.Facts.{to_z-of_z, to_z_pos}
use borrow.Author.Rules.{sfits_of}
use Rattle.value.specs.Division.{floored}
use Rattle.rounding.specs.Rounding.{distance, rounded}
use Rattle.value.proofs.Machine.{back, back_is, said, eqb-bits, bit, other-bit-fits}
use Rattle.value.proofs.Operation.{divides}
use Rattle.value.proofs.Folded.{remainder, remainder-below}
use Rattle.rounding.proofs.Distances.{distance-floor, even_is, stays, rounded-is, size_below, rounded-size}
use Rattle.rounding.proofs.rounded.Goals as goal
use Rattle.rounding.proofs.rounded.Goals.{After-remainder-twice}

stepped : (t : Bool) (q : ℤ) → q +ℤ back (pos 1 -ℤ bit t) ≡ cond t q (q +ℤ pos 1)
stepped true q = +ℤ_idr q
stepped false q = refl

module _ (c : After-remainder-twice) where
  abbrev v : ℤ
  v = c.args.total

  abbrev n : ℕ
  n = c.args.rows

  p : 0 < n
  p = c.requires

  fits : SFits w64 v
  fits = c.ranges.total

  -- what the two calls answered
  quotient : back c.floored-q.result ≡ shr_z v n
  unfolding floored
  quotient = back_is c.floored-q.result c.floored-q.type_inv ∙ said (λ t. floored t n) fits c.floored-q.ensures

  quotient_fits : SFits w64 (shr_z v n)
  quotient_fits = sfits_le (mag_shr v n) fits

  left : back c.remainder-twice.result ≡ pos (remainder v n)
  unfolding floored
  left =
      back_is c.remainder-twice.result c.remainder-twice.type_inv
      ∙ said (λ t. pos (distance t n (floored t n))) fits c.remainder-twice.ensures
      ∙ ap pos (distance-floor v p)

  twice : SFits w64 (pos (2 * remainder v n))
  twice = sfits_of (omega (arith, remainder-below v p))

  -- the code's test, as the machine reads it
  abbrev Test : Bool
  Test = lt_z (pos (2 * remainder v n)) (to_z w64 n) || (eqb (2 * remainder v n) n && eqb (of_z w64 (rem_z (shr_z v n) (pos 2))) 0)

  test : Test ≡ stays v n
  test =
      let e : to_z w64 n ≡ pos n = to_z_pos w64 (omega arith) in
      let f = sfits_le (mag_rem (shr_z v n) (pos 2)) quotient_fits in
      rw (e, eqb-bits (rem_z (shr_z v n) (pos 2)) (pos 0) f (sfits_of (lit< tt)), even_is (shr_z v n))

  -- the quotient, and one more where it does not stay
  sum : shr_z v n +ℤ back (pos 1 -ℤ bit Test) ≡ rounded v n
  sum = stepped Test (shr_z v n) ∙ rw (test, ← rounded-is v p)

  rounded-fits : SFits w64 (rounded v n)
  rounded-fits =
      sfits_of
      (rounded-size v p (2 ^ 63 - 1) (size_below v (n * (2 ^ 63 - 1)) (omega (arith, fits.sfits, p))) (omega (arith, fits.sfits, p)))

pub overflow_mul-twice : goal.overflow_mul-twice
overflow_mul-twice c = rw (left c) (twice c)

pub nonzero_rem-stays : goal.nonzero_rem-stays
nonzero_rem-stays c = rw (quotient c) (divides _ (pos 2) refl (quotient_fits c))

pub overflow_sub-result : goal.overflow_sub-result
overflow_sub-result c = rw (quotient c, left c, to_z-of_z (twice c)) (other-bit-fits (Test c))

pub overflow_add-result : goal.overflow_add-result
overflow_add-result c = rw (quotient c, left c, to_z-of_z (twice c), sum c) (rounded-fits c)

pub returns : goal.returns
returns c = rw (quotient c, left c, to_z-of_z (twice c), sum c) (to_z-of_z (rounded-fits c))
