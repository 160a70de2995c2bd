-- The text of a table, in bytes (change request #101).
use Rattle.std.specs.Prelude.{ℕ, zero, suc, ◌+◌, ◌-◌, ◌*◌, ◌/◌, ◌%◌, true, false, cond, List, [], ◌∷◌, ◌++◌, map, ltb, ℤ, take, drop}
use Rattle.plan.specs.Table.{Table}
use Rattle.value.specs.Pattern.{negative, magnitude_of}

-- `c0,c1,c2,c3,c4,c5,c6,c7`: every name that a header can have, with its commas
abbrev pub names : List ℕ
names =
    99 ∷ 48 ∷ 44 ∷ 99 ∷ 49 ∷ 44 ∷ 99 ∷ 50 ∷ 44 ∷ 99 ∷ 51 ∷ 44 ∷ 99 ∷ 52 ∷ 44 ∷ 99 ∷ 53 ∷ 44 ∷ 99 ∷ 54 ∷ 44 ∷ 99 ∷ 55 ∷ []

-- "Every line ends in CR LF"
abbrev pub line_end : List ℕ
line_end = 13 ∷ 10 ∷ []

-- "The first line is the header `c0,c1` and so on, one name per column": two bytes for each name, and the commas between them
unfoldable pub header : ℕ → List ℕ
header columns = take (3 * columns - 1) names ++ line_end

-- "no leading zeros, zero being `0`": the digits of n, at most one more of them than `more`
unfoldable pub digits_of : ℕ → ℕ → List ℕ
digits_of zero n = (48 + n) ∷ []
digits_of (suc more) n = elim (ltb n 10) [ true ↦ (48 + n) ∷ [] | false ↦ digits_of more (n / 10) ++ (48 + n % 10) ∷ [] ]

-- a number n has at most n + 1 digits
unfoldable pub digits : ℕ → List ℕ
digits n = digits_of n n

-- "Values are decimal with a minus sign where needed"
unfoldable pub decimal : ℤ → List ℕ
decimal v = cond (negative v) (45 ∷ digits (magnitude_of v)) (digits (magnitude_of v))

-- a row's values with commas between, and the line's end; "nothing is quoted"
unfoldable pub line : List ℤ → List ℕ
line [] = line_end
line (v ∷ []) = decimal v ++ line_end
line (v ∷ w ∷ vs) = decimal v ++ 44 ∷ line (w ∷ vs)

unfoldable pub lines : List (List ℤ) → List ℕ
lines [] = []
lines (row ∷ rows) = line row ++ lines rows

-- "A release of no rows gives the header alone"
unfoldable pub text_of : ℕ → List (List ℤ) → List ℕ
text_of columns rows = header columns ++ lines rows

-- a table's values, row by row, and its text
abbrev pub value_rows : Table → List (List ℤ)
value_rows table = map (λ row. map (λ cell. cell.value) row.cells) table.rows

abbrev pub table_text : Table → List ℕ
table_text table = text_of table.columns (value_rows table)

-- values that stand row by row, cut into so many rows
abbrev pub cut : ℕ → ℕ → List ℤ → List (List ℤ)
cut columns zero values = []
cut columns (suc rows) values = take columns values ∷ cut columns rows (drop columns values)
