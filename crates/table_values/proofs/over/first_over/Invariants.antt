-- `table_values::over::first_over`: the search is what is left of it, from a row and a column on. Assumes nothing.
use Rattle.std.proofs.Common.{◌≡◌, ℕ, ◌+◌, ◌*◌, drop}
use Rattle.std.specs.Prelude.{None}
use Rattle.table_values.specs.promises.Over.{first_over_in}
use Rattle.table_values.proofs.Overs.{rows_left, cells_left}
use Rattle.table_values.proofs.over.first_over.Given as goal

abbrev pub invariant-rows : goal.invariant-rows
invariant-rows l = (l.found ≡ None) × ((first : ℕ) → first_over_in first l.columns l.rows (drop l.at l.values) ≡ rows_left l.values l.rows l.columns first l.row (l.at + l.row * l.columns))

abbrev pub invariant-loop-column : goal.invariant-loop-column
invariant-loop-column l = (l.found ≡ None) × ((first : ℕ) → first_over_in first l.columns l.rows (drop l.at l.values) ≡ cells_left l.values l.rows l.columns first l.row l.column (l.at + l.row * l.columns + l.column))
