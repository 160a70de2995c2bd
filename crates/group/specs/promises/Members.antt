-- The rows of a table in memory, and which of them make a group.
use Rattle.std.specs.Prelude.{ℕ, ◌+◌, ◌-◌, ◌*◌, ◌≤◌, ◌<◌, ◌≡◌, true, false, cond, List, [], ◌∷◌, map, eqb, ℤ, length, get_or, take, drop}
use Rattle.group.specs.declared.Grouping.{Grouping}
use Rattle.label_discharge.specs.Discharge.{forbids_a}
use Rattle.label_words.specs.WellFormed.{well_formed}
use Rattle.accumulator.specs.promises.Accumulators.{single, with_values}
use Rattle.accumulator.specs.declared.Accumulator.{Accumulator}
use Rattle.cells.specs.promises.Cells.{cells_of, bare_rows, row_from, table_rows}
use Rattle.chains.specs.promises.Chains.{Chain}
use Rattle.live_tables.specs.declared.LiveTable.{LiveTable}
use Rattle.plan.specs.Group.{composed_after, distinct}
use Rattle.plan.specs.Numbers.{aggregate_code}
use Rattle.plan.specs.Table.{Each, Cell, Row, cell_at}
use Rattle.plan.specs.declared.Aggregate.{Aggregate}

-- the GROUP of a live table, which makes rows of a width
abbrev pub grouping_of : LiveTable → ℕ → Aggregate → ℕ → ℕ → Grouping
grouping_of table keys aggregate column width = record { table = table; keys = keys; aggregate = aggregate; column = column; width = width }

-- a table that lies within a slice of this length, with the column that is aggregated
pub record ColumnInside (g : Grouping) (length : ℕ) : Type 0 where
  pub few-rows : g.table.rows ≤ 256
  pub few-columns : g.table.columns ≤ 8
  pub has-column : g.column < g.table.columns
  pub within : g.table.at + g.table.rows * g.table.columns ≤ length

-- the table's rows, and one of them
abbrev pub grouped_rows : Grouping → List Cell → List Row
grouped_rows g memory = table_rows g.table.columns g.table.rows memory g.table.at

abbrev pub row_of : Grouping → List Cell → ℕ → Row
row_of g memory row = row_from g.table.columns memory (g.table.at + row * g.table.columns)

-- the elements beside a number
abbrev pub chosen : {A : Type 0} → ℕ → List ℕ → List A → List A
chosen number numbers [] = []
chosen number [] (x ∷ list) = []
chosen number (n ∷ numbers) (x ∷ list) = cond (eqb n number) (x ∷ chosen number numbers list) (chosen number numbers list)

-- the rows from one on
abbrev pub rows_from : Grouping → List Cell → ℕ → List Row
rows_from g memory row = bare_rows g.table.columns (g.table.rows - row) (drop (g.table.at + row * g.table.columns) memory)

-- the later rows beside which a row's number stands
abbrev pub later : Grouping → List Cell → List ℕ → ℕ → List Row
later g memory leaders row = chosen row (drop (row + 1) leaders) (rows_from g memory (row + 1))

abbrev pub members : Grouping → List Cell → List ℕ → ℕ → List Row
members g memory leaders row = row_of g memory row ∷ later g memory leaders row

-- a label that an aggregate may be made of
abbrev pub AllowedLabel : ℕ → Type 0
AllowedLabel label = (well_formed label ≡ true) × (forbids_a label ≡ false)

abbrev pub Allowed : ℕ → Row → Type 0
Allowed column row = AllowedLabel (cell_at column row).label

-- the values of a column of rows, and the labels
abbrev pub column_values : ℕ → List Row → List ℤ
column_values column rows = map (λ cell. cell.value) (map (cell_at column) rows)

abbrev pub column_labels : ℕ → List Row → List ℕ
column_labels column rows = map (λ cell. cell.label) (map (cell_at column) rows)

-- The group that a row leads, whatever stands in the other slice. Its values, accumulated:
abbrev pub GroupValues : Grouping → List ℤ → List ℕ → ℕ → Accumulator → Type 0
GroupValues g values next row all =
    (leaders labels : List ℕ) → Chain g.table.rows leaders next → get_or leaders row 0 ≡ row → ColumnInside g (length labels)
    → all ≡ with_values (single (cell_at g.column (row_of g (cells_of values labels) row)).value) (column_values g.column (later g (cells_of values labels) leaders row))

-- its labels, each discharged over so many sheets, composed in row order:
abbrev pub GroupLabel : Grouping → List ℕ → List ℕ → ℕ → ℕ → ℕ → Type 0
GroupLabel g labels next row size label =
    (leaders : List ℕ) (values : List ℤ) → Chain g.table.rows leaders next → get_or leaders row 0 ≡ row → ColumnInside g (length values)
    → Each (Allowed g.column) (rows_from g (cells_of values labels) row)
    → label ≡ composed_after (aggregate_code g.aggregate) size 0 (column_labels g.column (members g (cells_of values labels) leaders row))

-- and how many different numbers stand beside its rows, one for each row of the table:
abbrev pub GroupSheets : ℕ → List ℕ → List ℕ → ℕ → ℕ → Type 0
GroupSheets rows numbers next row sheets =
    (leaders : List ℕ) → Chain rows leaders next → get_or leaders row 0 ≡ row
    → sheets ≡ distinct (chosen row (drop row leaders) (drop row (take rows numbers)))
