-- A table's values as text, one after the other: each with what ends it. `left` values of a row of so many columns are left.
use Rattle.std.specs.Prelude.{ℕ, zero, suc, ◌+◌, ◌-◌, ◌/◌, ◌%◌, cond, List, [], ◌∷◌, ◌++◌, eqb, ℤ}
use Rattle.csv_text.specs.Text.{line_end, decimal}

-- the two digits of a number below 100
abbrev pub pair_of : ℕ → List ℕ
pair_of n = (48 + n / 10) ∷ (48 + n % 10) ∷ []

-- those of so many numbers from n on, one pair after the other, and of all below 100
abbrev pub pairs_from : ℕ → ℕ → List ℕ
pairs_from zero n = []
pairs_from (suc count) n = pair_of n ++ pairs_from count (suc n)

unfoldable pub digit_pairs : List ℕ
digit_pairs = pairs_from 100 0

-- what ends a value: the line's end after a row's last, a comma after any other
unfoldable pub separator : ℕ → List ℕ
separator left = cond (eqb left 1) line_end (44 ∷ [])

-- how many are left after one
unfoldable pub next_left : ℕ → ℕ → ℕ
next_left columns left = cond (eqb left 1) columns (left - 1)

unfoldable pub spelled : ℕ → ℕ → List ℤ → List ℕ
spelled columns left [] = []
spelled columns left (v ∷ vs) = decimal v ++ (separator left ++ spelled columns (next_left columns left) vs)
