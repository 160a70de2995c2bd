-- Labels that are labels. The label library answers for these alone, and every table of a run has no others.
use Rattle.std.specs.Prelude.{ℕ, ◌≡◌, Bool, true, ◌&&◌, List, [], ◌∷◌, ltb, length, get_or, drop}
use Rattle.label_words.specs.WellFormed.{well_formed}
use Rattle.cells.specs.promises.Cells.{grid_of}
use Rattle.cells.specs.promises.Search.{table_within}
use Rattle.plan.specs.Table.{Cell, Row, Table, Each}

-- whether every label of a column is well-formed
abbrev pub column_formed : ℕ → List (List ℕ) → Bool
column_formed column [] = true
column_formed column (labels ∷ rest) = well_formed (get_or labels column 0) && column_formed column rest

-- the same of a column of the table of so many rows and columns from a place on, which has the column and lies within the labels
abbrev pub column_formed_at : List ℕ → ℕ → ℕ → ℕ → ℕ → Bool
column_formed_at labels at rows columns column =
    table_within at rows columns (length labels) && ltb column columns && column_formed column (grid_of columns rows (drop at labels))

-- every label of a row, of a table, is well-formed
abbrev pub Formed : Cell → Type 0
Formed cell = well_formed cell.label ≡ true

abbrev pub LabelledRow : Row → Type 0
LabelledRow row = Each Formed row.cells

abbrev pub Labelled : Table → Type 0
Labelled table = Each LabelledRow table.rows
