-- "Steps on a stack of at most three tables": the stack, read out of work memory.
use Rattle.std.specs.Prelude.{ℕ, zero, suc, ◌+◌, ◌*◌, ◌≤◌, ◌<◌, ◌≡◌, Bool, List, [], ◌∷◌, map, length, get_or, take, drop}
use Rattle.cells.specs.promises.Cells.{grid_of, table_rows}
use Rattle.cells.specs.promises.Labelled.{column_formed}
use Rattle.cells.specs.promises.Work.{Work, Memory, cells_in, room, mark_room, Kept, MarksKept}
use Rattle.live_tables.specs.declared.LiveTable.{LiveTable}
use Rattle.live_tables.specs.declared.Stack.{Stack}
unfoldable pub use Rattle.live_tables.specs.promises.Live.{ready, live_table, with_table, no_tables}
pub use Rattle.live_tables.specs.promises.Live.{slot, mark_slot, live_at, no_table, replaced}
use Rattle.plan.specs.Table.{Row, Table, flat, grid, rows_of, top}

-- that slices are long enough and a stack fits them (`ready`), as facts
pub record Ready (values labels : ℕ) (stack : Stack) : Type 0 where
  pub values-room : room ≤ values
  pub labels-room : room ≤ labels
  pub depth : stack.depth ≤ 3
  pub rows : (i : ℕ) → i < 3 → get_or stack.rows i 0 ≤ 256
  pub columns : (i : ℕ) → i < 3 → get_or stack.columns i 0 ≤ 8

-- where the last slot begins
abbrev pub last_slot : ℕ
last_slot = 6144

-- the same of the marks
abbrev pub last_marks : ℕ
last_marks = 768

-- so many marks from a place on
abbrev pub mark_part : List ℕ → ℕ → ℕ → List ℕ
mark_part marks at rows = take rows (drop at marks)

-- the table of so many columns and rows in a slot
abbrev pub table_in : Memory → ℕ → ℕ → ℕ → Table
table_in memory index columns rows = record {
  columns = columns;
  rows = rows_of columns (mark_part memory.marks (mark_slot index) rows) (drop (slot index) (cells_in memory.work));
}

-- the tables of the first slots, the last one first
abbrev pub tables_to : Memory → Stack → ℕ → List Table
tables_to memory stack zero = []
tables_to memory stack (suc index) = table_in memory index (get_or stack.columns index 0) (get_or stack.rows index 0) ∷ tables_to memory stack index

-- the whole stack, the last pushed first
abbrev pub stack_in : Memory → Stack → List Table
stack_in memory stack = tables_to memory stack stack.depth

-- whether every label of a column of the last table pushed is well-formed
abbrev pub top_formed : ℕ → Memory → Stack → Bool
top_formed column memory stack = column_formed column (grid (top (stack_in memory stack)))

-- the widths of the tables of the first slots, the last one first
abbrev pub widths_to : Stack → ℕ → List ℕ
widths_to stack zero = []
widths_to stack (suc index) = get_or stack.columns index 0 ∷ widths_to stack index

-- the rows that stand there, without their marks and with them, and their table
abbrev pub rows_in : Work → LiveTable → List Row
rows_in work table = table_rows table.columns table.rows (cells_in work) table.at

abbrev pub marked_in : Memory → LiveTable → List Row
marked_in memory table =
    rows_of table.columns (mark_part memory.marks table.marks table.rows) (drop table.at (cells_in memory.work))

abbrev pub table_of : Memory → LiveTable → Table
table_of memory table = record { columns = table.columns; rows = marked_in memory table }

-- their labels, in the slice of labels
abbrev pub labels_in : List ℕ → LiveTable → List (List ℕ)
labels_in labels table = grid_of table.columns table.rows (drop table.at labels)

-- a table below the last slot, in slices of enough length
pub record Inside (table : LiveTable) (values labels : ℕ) : Type 0 where
  pub few-rows : table.rows ≤ 256
  pub few-columns : table.columns ≤ 8
  pub below : table.at + table.rows * table.columns ≤ last_slot
  pub values-room : room ≤ values
  pub labels-room : room ≤ labels

-- its marks, below the last slot in a slice of enough length
pub record MarksInside (table : LiveTable) (marks : ℕ) : Type 0 where
  pub below : table.marks + table.rows ≤ last_marks
  pub mark-room : mark_room ≤ marks

-- the cells of rows stand from a place on, and nothing below it changed
pub record RowsAt (at : ℕ) (rows : List Row) (before after : Work) : Type 0 where
  pub read : take (length (flat rows)) (drop at (cells_in after)) ≡ flat rows
  pub lower : take at (cells_in after) ≡ take at (cells_in before)
  pub as_long : length (cells_in after) ≡ length (cells_in before)
  pub kept : Kept before after

-- the marks of rows stand from a place on, and nothing below it changed
pub record MarksAt (at : ℕ) (rows : List Row) (before after : List ℕ) : Type 0 where
  pub read : mark_part after at (length rows) ≡ map (λ row. row.mark) rows
  pub lower : take at after ≡ take at before
  pub kept : MarksKept before after
