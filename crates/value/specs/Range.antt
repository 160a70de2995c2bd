-- The range of a value, and OVER, document 01's word for a result outside it.
-- Assumes nothing.
use Rattle.std.specs.Prelude.{Bool, cond, ◌&&◌, ◌-◌, ◌^◌, ℤ, pos, negsuc}
use Rattle.std.specs.Int.Signed.{le_z}

-- "A value lies in −2^47 .. 2^47 − 1"
unfoldable pub least : ℤ
least = negsuc (2 ^ 47 - 1)

unfoldable pub most : ℤ
most = pos (2 ^ 47 - 1)

unfoldable pub in_range : ℤ → Bool
in_range v = le_z least v && le_z v most

unfoldable pub both_in_range : ℤ → ℤ → Bool
both_in_range a b = in_range a && in_range b

-- OVER is this one number, the first above the range. Every number out of range counts as OVER.
unfoldable pub OVER : ℤ
OVER = pos (2 ^ 47)

-- "A result outside becomes OVER"
unfoldable pub settled : ℤ → ℤ
settled v = cond (in_range v) v OVER

-- "and so does any result with an OVER operand": z is the result of the operands a and b.
unfoldable pub of_both : ℤ → ℤ → ℤ → ℤ
of_both a b z = cond (both_in_range a b) z OVER
