-- The signed reading of 64 bits, and a number as a sign and a magnitude.
-- Assumes nothing.
use mathlib.Core.Path.{◌≡◌, refl}
use mathlib.Core.Bool.{Bool, true, false, cond, ◌||◌}
use Prim.Native.Nat.{ℕ, suc, ◌-◌, ◌^◌, ◌<◌}
use native.Mathlib.Omega.{arith}
use lib.Dec.{leb, ltb}
use lib.IntN.{ℤ, pos, negsuc, neg_ℤ}
use borrow.Author.Tests.{ltb-true, ltb-false, leb-true, leb-false, le-ltb}
use Rattle.value.specs.Range.{in_range}
use Rattle.value.specs.Pattern.{signed_of, negative, magnitude_of}
use Rattle.value.proofs.Sizes.{size_in, size-out}

-- the bits of a value are those below 2^47, and the last 2^47 of all
pub signed-in : (u : ℕ) → u < 2 ^ 64 → in_range (signed_of u) ≡ (ltb u (2 ^ 47) || leb (2 ^ 64 - 2 ^ 47) u)
unfolding signed_of
signed-in u l = go (ltb u (2 ^ 63)) (ltb u (2 ^ 47)) (leb (2 ^ 64 - 2 ^ 47) u) refl refl refl
  where
    go : (s t w : Bool) → ltb u (2 ^ 63) ≡ s → ltb u (2 ^ 47) ≡ t → leb (2 ^ 64 - 2 ^ 47) u ≡ w
        → in_range (cond s (pos u) (negsuc (2 ^ 64 - suc u))) ≡ (t || w)
    go true true w a b c = size_in (pos u) (ltb-true u (2 ^ 47) b)
    go true false true a b c = absurd (omega (arith, ltb-true u (2 ^ 63) a, leb-true (2 ^ 64 - 2 ^ 47) u c))
    go true false false a b c = size-out (pos u) (ltb-false u (2 ^ 47) b)
    go false true w a b c = absurd (omega (arith, ltb-false u (2 ^ 63) a, ltb-true u (2 ^ 47) b))
    go false false true a b c = size_in (negsuc (2 ^ 64 - suc u)) (omega (arith, leb-true (2 ^ 64 - 2 ^ 47) u c))
    go false false false a b c = size-out (negsuc (2 ^ 64 - suc u)) (omega (arith, leb-false (2 ^ 64 - 2 ^ 47) u c))

pub sign-magnitude : (v : ℤ) → v ≡ cond (negative v) (neg_ℤ (pos (magnitude_of v))) (pos (magnitude_of v))
unfolding negative magnitude_of
sign-magnitude (pos n) = rw (le-ltb n 0 (omega arith))
sign-magnitude (negsuc n) = refl
