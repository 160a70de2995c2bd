-- Division that rounds down.
use Rattle.std.specs.Prelude.{ℕ, cond, ℤ, pos, negsuc, ◌-ℤ◌}
use Rattle.std.specs.Int.Signed.{lt_z, shr_z}

-- The largest whole number not above v / n: `shr_z` divides and rounds down.
unfoldable pub floored : ℤ → ℕ → ℤ
floored v n = shr_z v n

-- A number that is not below zero: v, or −1 − v where v is below zero.
unfoldable pub folded : ℤ → ℤ
folded v = cond (lt_z v (pos 0)) (negsuc 0 -ℤ v) v
