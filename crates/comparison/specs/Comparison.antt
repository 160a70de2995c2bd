-- The six comparisons, and the equality of group keys.
-- Assumes nothing.
use Rattle.std.specs.Prelude.{Bool, not, ◌&&◌, ℤ}
use Rattle.std.specs.Int.Signed.{lt_z, le_z}
use Rattle.value.specs.Equality.{eq_z}
use Rattle.value.specs.Range.{both_in_range, settled}

-- "All six comparisons with OVER are false"
unfoldable pub equal : ℤ → ℤ → Bool
equal a b = both_in_range a b && eq_z a b

unfoldable pub unequal : ℤ → ℤ → Bool
unequal a b = both_in_range a b && not (eq_z a b)

unfoldable pub less : ℤ → ℤ → Bool
less a b = both_in_range a b && lt_z a b

unfoldable pub at_most : ℤ → ℤ → Bool
at_most a b = both_in_range a b && le_z a b

unfoldable pub greater : ℤ → ℤ → Bool
greater a b = less b a

unfoldable pub at_least : ℤ → ℤ → Bool
at_least a b = at_most b a

-- "OVER group keys are equal"
unfoldable pub same : ℤ → ℤ → Bool
same a b = eq_z (settled a) (settled b)
