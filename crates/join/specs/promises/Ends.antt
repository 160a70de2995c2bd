-- The end of a join.
use Rattle.std.specs.Prelude.{ℕ, ◌≤◌, ◌<◌, ◌≡◌, length, take, Result, Ok, Err}
use Rattle.cells.specs.promises.Work.{Memory, cells_in, AllKept}
use Rattle.pairs.specs.declared.Side.{Side}
use Rattle.pairs.specs.promises.Pairs.{marked_rows}
use Rattle.live_tables.specs.declared.LiveTable.{LiveTable}
use Rattle.memory.specs.declared.Refusal.{Refusal}
use Rattle.memory.specs.declared.Refusal.TheVariants.{TooMany}
use Rattle.memory.specs.promises.Stack.{last_slot, last_marks, RowsAt, MarksAt}

-- a live table, with its key
abbrev pub side_of : LiveTable → ℕ → Side
side_of table key = record { table = table; key = key }

-- More than 256 rows are refused, and nothing below the last slot is changed. Else they are counted, and stand at the left table's place with their
-- marks; nothing before that place is changed.
pub record Finished (left right : Side) (before : Memory) (done : Result ℕ Refusal) (after : Memory) : Type 0 where
  pub refused : 256 < length (marked_rows before left right)
      → (done ≡ Err TooMany)
      × (take last_slot (cells_in after.work) ≡ take last_slot (cells_in before.work)) × (take last_marks after.marks ≡ take last_marks before.marks)
  pub made : length (marked_rows before left right) ≤ 256
      → (done ≡ Ok (length (marked_rows before left right)))
      × RowsAt left.table.at (marked_rows before left right) before.work after.work
      × MarksAt left.table.marks (marked_rows before left right) before.marks after.marks
  pub kept : AllKept before after
