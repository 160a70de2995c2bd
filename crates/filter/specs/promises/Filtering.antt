-- FILTER over the cells of a table in memory.
use Rattle.std.specs.Prelude.{ℕ, ◌≡◌, Bool, map, length}
use Rattle.plan.specs.Table.{Row, flat}
use Rattle.cells.specs.promises.Work.{Memory, AllKept}
use Rattle.cells.specs.promises.Written.{Written, CellsWritten}
use Rattle.live_tables.specs.declared.LiveTable.{LiveTable}
use Rattle.memory.specs.promises.Stack.{marked_in}
use Rattle.plan.specs.Filter.{passing}

-- the rows that pass, cells and marks, are written over the table, and counted
pub record Filtered (top : LiveTable) (pass : Row → Bool) (before : Memory) (count : ℕ) (after : Memory) : Type 0 where
  pub counted : count ≡ length (passing pass (marked_in before top))
  pub cells : CellsWritten before.work top.at (flat (passing pass (marked_in before top))) after.work
  pub marks : Written before.marks top.marks (map (λ row. row.mark) (passing pass (marked_in before top))) after.marks
  pub kept : AllKept before after
