-- KEEP over the cells of a table in memory.
use Rattle.std.specs.Prelude.{ℕ, ◌+◌, ◌≡◌, map}
use Rattle.cells.specs.promises.Cells.{row_from}
use Rattle.cells.specs.promises.Work.{Work, cells_in, Kept}
use Rattle.cells.specs.promises.Written.{CellsWritten}
use Rattle.live_tables.specs.declared.LiveTable.{LiveTable}
use Rattle.memory.specs.promises.Stack.{rows_in}
use Rattle.plan.specs.Keep.{kept_count, kept_cells, kept_row}
use Rattle.plan.specs.Table.{flat}

-- the kept cells of the row at `from` are written from `to` on
pub record RowKept (mask from to columns : ℕ) (before : Work) (end : ℕ) (after : Work) : Type 0 where
  pub ended : end ≡ to + kept_count mask columns
  pub written : CellsWritten before to (kept_cells mask columns (row_from columns (cells_in before) from)) after
  pub kept : Kept before after

-- the kept cells of all rows are written over the table
pub record RowsKept (mask : ℕ) (top : LiveTable) (before after : Work) : Type 0 where
  pub written : CellsWritten before top.at (flat (map (kept_row mask top.columns) (rows_in before top))) after
  pub kept : Kept before after
