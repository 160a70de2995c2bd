-- Two slices, values and labels, as one list of cells.
use Rattle.std.specs.Prelude.{ℕ, zero, suc, ◌+◌, ◌-◌, ◌≡◌, Bool, ◌&&◌, ◌||◌, List, [], ◌∷◌, ◌++◌, leb, ℤ, length, take, drop, replicate}
use Rattle.plan.specs.Table.{Cell, Row, rows_of}

-- as long as the shorter of the two
abbrev pub cells_of : List ℤ → List ℕ → List Cell
cells_of [] labels = []
cells_of (value ∷ values) [] = []
cells_of (value ∷ values) (label ∷ labels) = record { value = value; label = label } ∷ cells_of values labels

-- a row of these cells, and so many rows of cells, without marks: what reads cells alone
abbrev pub bare_row : List Cell → Row
bare_row cells = record { cells = cells; mark = 0 }

abbrev pub no_marks : ℕ → List ℕ
no_marks rows = replicate rows 0

abbrev pub bare_rows : ℕ → ℕ → List Cell → List Row
bare_rows columns rows cells = rows_of columns (no_marks rows) cells

-- the row of so many columns whose first cell stands at a place, and the rows of a table of so many columns and rows from there on
abbrev pub row_from : ℕ → List Cell → ℕ → Row
row_from columns memory place = bare_row (take columns (drop place memory))

abbrev pub table_rows : ℕ → ℕ → List Cell → ℕ → List Row
table_rows columns rows memory place = bare_rows columns rows (drop place memory)

-- a row of so many columns
abbrev pub Wide : ℕ → Row → Type 0
Wide columns row = length row.cells ≡ columns

-- the labels of a table's cells, row by row
abbrev pub grid_of : ℕ → ℕ → List ℕ → List (List ℕ)
grid_of columns zero labels = []
grid_of columns (suc rows) labels = take columns labels ∷ grid_of columns rows (drop columns labels)

-- `count` elements from a place on, copied to another place
abbrev pub moved : {A : Type 0} → ℕ → ℕ → ℕ → List A → List A
moved from to count list = take to list ++ (take count (drop from list) ++ drop (to + count) list)

-- a part of a list is within it
abbrev pub within : ℕ → ℕ → ℕ → Bool
within from count length = leb from length && leb count (length - from)

-- elements of a list that long can be copied within it, first to last, to a place not after theirs or wholly past them
abbrev pub can_move : ℕ → ℕ → ℕ → ℕ → Bool
can_move from to count length = (leb to from || leb (from + count) to) && within from count length && within to count length

-- such a move within both slices
abbrev pub moves_within : List ℤ → List ℕ → ℕ → ℕ → ℕ → Bool
moves_within values labels from to count = can_move from to count (length values) && can_move from to count (length labels)
