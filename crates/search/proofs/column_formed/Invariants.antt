-- `search::column_formed`: the test is what is left of it, from a row on. Assumes nothing.
use Rattle.std.proofs.Common.{◌≡◌, ◌+◌, ◌-◌, ◌*◌, drop}
use Rattle.cells.specs.promises.Cells.{grid_of}
use Rattle.cells.specs.promises.Labelled.{column_formed}
use Rattle.search.proofs.column_formed.Given as goal

abbrev pub invariant-loop-row : goal.invariant-loop-row
invariant-loop-row l = column_formed l.column (grid_of l.columns l.rows (drop l.at l.labels)) ≡ column_formed l.column (grid_of l.columns (l.rows - l.row) (drop (l.at + l.row * l.columns) l.labels))
