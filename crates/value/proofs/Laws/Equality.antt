-- Numbers that are one are equal.
-- Assumes nothing.
use mathlib.Core.Path.{◌≡◌, refl, ap}
use mathlib.Core.Bool.{true, false≢true}
use lib.IntN.{ℤ, pos, negsuc}
use borrow.Author.Tests.{eqb-true, eq-eqb}
use Rattle.value.specs.Equality.{eq_z}

pub eq_z-refl : (a : ℤ) → eq_z a a ≡ true
unfolding eq_z
eq_z-refl (pos n) = eq-eqb n n refl
eq_z-refl (negsuc n) = eq-eqb n n refl

pub eq_z-eq : (a b : ℤ) → eq_z a b ≡ true → a ≡ b
unfolding eq_z
eq_z-eq (pos m) (pos n) e = ap pos (eqb-true m n e)
eq_z-eq (pos m) (negsuc n) e = absurd (false≢true e)
eq_z-eq (negsuc m) (pos n) e = absurd (false≢true e)
eq_z-eq (negsuc m) (negsuc n) e = ap negsuc (eqb-true m n e)
