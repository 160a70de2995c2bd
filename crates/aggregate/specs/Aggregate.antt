-- What the aggregates of a group are made of.
-- Assumes nothing.
use Rattle.std.specs.Prelude.{Bool, true, cond, ◌&&◌, List, [], ◌∷◌, ◌-◌, ◌^◌, ℤ, pos, negsuc, ◌+ℤ◌}
use Rattle.std.specs.Int.Signed.{le_z}
use Rattle.value.specs.Range.{in_range, of_both}

-- "sum, min and max are of exact values". A group's min and max are made of these, a pair at a time.
unfoldable pub smaller : ℤ → ℤ → ℤ
smaller a b = of_both a b (cond (le_z a b) a b)

unfoldable pub larger : ℤ → ℤ → ℤ
larger a b = of_both a b (cond (le_z b a) a b)

-- The sum of a group's values, not settled.
unfoldable pub exact_sum : List ℤ → ℤ
exact_sum [] = pos 0
exact_sum (v ∷ vs) = v +ℤ exact_sum vs

-- Whether no member is OVER.
unfoldable pub all_in_range : List ℤ → Bool
all_in_range [] = true
all_in_range (v ∷ vs) = in_range v && all_in_range vs

-- A sum from −2^62 to 2^62 − 1: any value can be added to it in 64 bits.
unfoldable pub has_room : ℤ → Bool
has_room total = le_z (negsuc (2 ^ 62 - 1)) total && le_z total (pos (2 ^ 62 - 1))

-- A running sum with one value more. It stays where the number is out of range or the sum has no room.
unfoldable pub accumulated : ℤ → ℤ → ℤ
accumulated total v = cond (in_range v && has_room total) (total +ℤ v) total
