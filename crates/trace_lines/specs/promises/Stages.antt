-- "stages left, the sum of present stages over all cells of the table made", of a table in memory.
use Rattle.std.specs.Prelude.{ℕ, cond, List, length, drop}
use Rattle.cells.specs.promises.Cells.{grid_of}
use Rattle.cells.specs.promises.Search.{table_within}
use Rattle.plan.specs.Trace.{stages_left}

-- 0 where the table does not lie within the labels
abbrev pub stages_at : List ℕ → ℕ → ℕ → ℕ → ℕ
stages_at labels at rows columns = cond (table_within at rows columns (length labels)) (stages_left (grid_of columns rows (drop at labels))) 0
