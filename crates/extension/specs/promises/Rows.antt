-- Rows with one cell more.
use Rattle.std.specs.Prelude.{ℕ, suc, List, [], ◌∷◌, ◌++◌, map, ℤ}
use Rattle.plan.specs.Table.{Cell, Row, cell_at}

-- `new` gives the cell that a row gets, by the row's number
abbrev pub extended : (ℕ → Row → Cell) → ℕ → Row → Row
extended new number row = record { cells = row.cells ++ (new number row ∷ []); mark = row.mark }

-- rows that are numbered from `number` on
abbrev pub extended_from : (ℕ → Row → Cell) → ℕ → List Row → List Row
extended_from new number [] = []
extended_from new number (row ∷ rest) = extended new number row ∷ extended_from new (suc number) rest

-- the values of a row
abbrev pub values_of : Row → List ℤ
values_of row = map (λ cell. cell.value) row.cells

-- A cell made of a column: its value of the row's number, the value in the column and the row's values, its label of the label in the column.
abbrev pub made_cell : (ℕ → ℤ → List ℤ → ℤ) → (ℕ → ℕ) → ℕ → ℕ → Row → Cell
made_cell value label column number row = record {
  value = value number (cell_at column row).value (values_of row);
  label = label (cell_at column row).label;
}
