-- The rows of groups, made one after the other in the last slot.
use Rattle.std.specs.Prelude.{ℕ, ◌+◌, ◌*◌, ◌≤◌, ◌<◌, ◌≡◌, List, [], ◌∷◌, ◌++◌, map, length, get_or, drop}
use Rattle.cells.specs.promises.Cells.{Wide}
use Rattle.cells.specs.promises.Work.{Work, Memory, cells_in, room, mark_room}
use Rattle.cells.specs.promises.Written.{Written, Put}
use Rattle.chains.specs.promises.Chains.{Chain}
use Rattle.group.specs.promises.Members.{row_of, members}
use Rattle.group.specs.declared.Grouping.{Grouping}
use Rattle.memory.specs.promises.Stack.{last_slot, last_marks, mark_part, RowsAt, MarksAt}
use Rattle.plan.specs.Group.{groups_after, group_row, aggregate_cell}
use Rattle.plan.specs.Keep.{kept_count, kept_cells}
use Rattle.plan.specs.Table.{Each, Cell, Row, cell_at, rows_of, flat}

-- a table below the last slot, whose groups have their keys and one column more, at most 8, in slices of these lengths
pub record Source (g : Grouping) (values labels : ℕ) : Type 0 where
  pub few-rows : g.table.rows ≤ 256
  pub few-columns : g.table.columns ≤ 8
  pub has-column : g.column < g.table.columns
  pub below : g.table.at + g.table.rows * g.table.columns ≤ last_slot
  pub width_is : g.width ≡ kept_count g.keys g.table.columns + 1
  pub narrow : g.width ≤ 8
  pub values-room : room ≤ values
  pub labels-room : room ≤ labels

-- the marks of the table lie below the last slot, in a slice of this length
pub record Marks (g : Grouping) (marks : ℕ) : Type 0 where
  pub slot-below : g.table.marks + 256 ≤ last_marks
  pub below : g.table.marks + g.table.rows ≤ last_marks
  pub mark-room : mark_room ≤ marks

-- the table's rows with their marks
abbrev pub grouped_marked : Grouping → Memory → List Row
grouped_marked g memory = rows_of g.table.columns (mark_part memory.marks g.table.marks g.table.rows) (drop g.table.at (cells_in memory.work))

-- the row of one group, and those of all groups
abbrev pub row_of_group : Grouping → List Row → Row
row_of_group g group = group_row g.keys g.table.columns g.aggregate g.column group

abbrev pub group_rows : Grouping → Memory → List Row
group_rows g memory = map (row_of_group g) (groups_after g.keys g.table.columns [] (grouped_marked g memory))

-- the cells of the row of the group that a row leads, of so many sheets
abbrev pub group_cells : Grouping → List Cell → List ℕ → ℕ → ℕ → List Cell
group_cells g memory leaders row sheets =
    kept_cells g.keys g.table.columns (row_of g memory row)
    ++ (aggregate_cell g.aggregate (map (cell_at g.column) (members g memory leaders row)) sheets ∷ [])

-- they are written from a place on
abbrev pub GroupWritten : Grouping → List ℕ → ℕ → ℕ → ℕ → Work → Work → Type 0
GroupWritten g next row sheets to before after =
    (leaders : List ℕ) → Chain g.table.rows leaders next → get_or leaders row 0 ≡ row → Put to (group_cells g (cells_in before) leaders row sheets) before after

-- a row's keys are written from a place on, and a cell after them
abbrev pub RowWritten : Grouping → ℕ → ℕ → Cell → Work → Work → Type 0
RowWritten g row to cell before after = Put to (kept_cells g.keys g.table.columns (row_of g (cells_in before) row) ++ (cell ∷ [])) before after

-- the rows of all groups and their marks are written and counted; each has the width
pub record AllMade (g : Grouping) (before : Memory) (count : ℕ) (after : Memory) : Type 0 where
  pub counted : count ≡ length (group_rows g before)
  pub wide : Each (Wide g.width) (group_rows g before)
  pub put : Put last_slot (flat (group_rows g before)) before.work after.work
  pub marks : Written before.marks last_marks (map (λ row. row.mark) (group_rows g before)) after.marks

-- the rows of all groups, counted, stand where the table began, and their marks where its marks did
pub record Replaced (g : Grouping) (before : Memory) (count : ℕ) (after : Memory) : Type 0 where
  pub few : count ≤ 256
  pub counted : count ≡ length (group_rows g before)
  pub wide : Each (Wide g.width) (group_rows g before)
  pub rows : RowsAt g.table.at (group_rows g before) before.work after.work
  pub marks : MarksAt g.table.marks (group_rows g before) before.marks after.marks
