-- The operations on one value or two. Cut and band are document 01's words.
-- Assumes nothing.
use Rattle.std.specs.Prelude.{cond, ◌&&◌, ℕ, ◌^◌, leb, ℤ, pos, nat_abs, ◌+ℤ◌, ◌-ℤ◌, ◌*ℤ◌}
use Rattle.std.specs.Int.Signed.{le_z, quot_z}
use Rattle.value.specs.Division.{floored}
use Rattle.value.specs.Range.{in_range, both_in_range, OVER, settled, of_both}

-- "A result outside becomes OVER, and so does any result with an OVER operand"
unfoldable pub plus : ℤ → ℤ → ℤ
plus a b = of_both a b (settled (a +ℤ b))

unfoldable pub minus : ℤ → ℤ → ℤ
minus a b = of_both a b (settled (a -ℤ b))

-- "cut k: quotient by 10^k, toward zero, k from 1 to 6". Any other k gives OVER.
unfoldable pub cut : ℕ → ℤ → ℤ
cut k v = cond (leb 1 k && leb k 6 && in_range v) (quot_z v (pos (10 ^ k))) OVER

-- "band k: the largest multiple of k not above the value", k from 1 to 2^47 − 1. Any other k gives OVER.
unfoldable pub band : ℤ → ℤ → ℤ
band k v = cond (both_in_range k v && le_z (pos 1) k) (settled (k *ℤ floored v (nat_abs k))) OVER
