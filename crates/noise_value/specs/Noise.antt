-- A value with noise (#102).
-- Assumes nothing.
use Rattle.std.specs.Prelude.{cond, ℤ, ◌+ℤ◌}
use Rattle.value.specs.Range.{in_range, OVER, settled}

-- "A draw may be any 64-bit number; a sum outside the value range is OVER", and so is one with an OVER value
unfoldable pub noisy : ℤ → ℤ → ℤ
noisy value draw = cond (in_range value) (settled (value +ℤ draw)) OVER
