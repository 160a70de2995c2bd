-- Masks of columns: "bit i for column i".
use Rattle.std.specs.Prelude.{ℕ, ◌/◌, ◌%◌, ◌^◌, Bool, eqb}

-- whether a column is in a mask
unfoldable pub in_mask : ℕ → ℕ → Bool
in_mask mask column = eqb (mask / 2 ^ column % 2) 1
