-- Cells, rows, tables and the stack. Order is part of each of them.
use Rattle.std.specs.Prelude.{ℕ, ◌≡◌, Bool, List, [], ◌∷◌, ◌++◌, map, eqb, ℤ, length, get_or, take, drop}
use Rattle.value.specs.Range.{OVER}

-- a value and its label
pub record Cell : Type 0 where
  pub value : ℤ
  pub label : ℕ

-- #103: "Each row now carries a sheet mark". Document 02 coins the word: rows with one mark are of one sheet.
pub record Row : Type 0 where
  pub cells : List Cell
  pub mark : ℕ

-- a table of no rows still has its columns
pub record Table : Type 0 where
  pub columns : ℕ
  pub rows : List Row

-- the cells of rows, one row after the other
abbrev pub flat : List Row → List Cell
flat [] = []
flat (row ∷ rest) = row.cells ++ flat rest

-- a fact of each element
abbrev pub Each : {A : Type 0} → (A → Type 0) → List A → Type 0
Each P [] = Unit
Each P (x ∷ xs) = P x × Each P xs

-- every row has the table's width
abbrev pub Shaped : Table → Type 0
Shaped table = Each (λ row. length row.cells ≡ table.columns) table.rows

-- "Zero means clear."
abbrev pub clear : ℕ → Bool
clear label = eqb label 0

-- a table's cells, row by row, as rows of so many columns with these marks
abbrev pub rows_of : ℕ → List ℕ → List Cell → List Row
rows_of columns [] cells = []
rows_of columns (mark ∷ marks) cells = record { cells = take columns cells; mark = mark } ∷ rows_of columns marks (drop columns cells)

-- where nothing stands: no accepted plan reads one
abbrev pub blank : Cell
blank = record { value = OVER; label = 0 }

abbrev pub no_table : Table
no_table = record { columns = 0; rows = [] }

abbrev pub cell_at : ℕ → Row → Cell
cell_at column row = get_or row.cells column blank

-- The stack, the last pushed first. The left table of two was pushed earlier.
abbrev pub top : List Table → Table
top stack = get_or stack 0 no_table

abbrev pub second : List Table → Table
second stack = get_or stack 1 no_table

-- The labels of a table, row by row. What a step refuses is a function of these alone, and of no value.
abbrev pub labels_of : Row → List ℕ
labels_of row = map (λ cell. cell.label) row.cells

abbrev pub grid : Table → List (List ℕ)
grid table = map labels_of table.rows
