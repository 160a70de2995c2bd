-- A number as 64 bits, and as a sign and a magnitude.
-- Assumes nothing.
use Rattle.std.specs.Prelude.{Bool, cond, ℕ, suc, ◌-◌, ◌^◌, ltb, ℤ, pos, negsuc, nat_abs}
use Rattle.std.specs.Int.Signed.{lt_z}

-- "each a signed 64-bit value": the number that the bits u stand for in two's complement.
unfoldable pub signed_of : ℕ → ℤ
signed_of u = cond (ltb u (2 ^ 63)) (pos u) (negsuc (2 ^ 64 - suc u))

-- "prints decimals": a decimal is a sign and a magnitude.
unfoldable pub negative : ℤ → Bool
negative v = lt_z v (pos 0)

unfoldable pub magnitude_of : ℤ → ℕ
magnitude_of v = nat_abs v
