-- The table that is made of a table in work memory, each row with one cell more.
use Rattle.std.specs.Prelude.{ℕ, Bool, ◌&&◌, List, ltb, leb, ℤ}
use Rattle.cells.specs.promises.Search.{table_within}
use Rattle.cells.specs.promises.Work.{Work, room}
use Rattle.live_tables.specs.declared.LiveTable.{LiveTable}
use Rattle.memory.specs.promises.Stack.{last_slot, rows_in}
use Rattle.plan.specs.Table.{Row}
use Rattle.extension.specs.promises.Rows.{extended_from, made_cell}

-- the table stands below the last slot of slices of these lengths, has the column, and has room for one more
abbrev pub extends : LiveTable → ℕ → ℕ → ℕ → Bool
extends top column values labels =
    table_within top.at top.rows top.columns last_slot && ltb column top.columns && ltb top.columns 8 && leb room values && leb room labels

-- the rows made of its rows
abbrev pub rows_made : (ℕ → ℤ → List ℤ → ℤ) → (ℕ → ℕ) → LiveTable → ℕ → Work → List Row
rows_made value label top column work = extended_from (made_cell value label column) 0 (rows_in work top)
