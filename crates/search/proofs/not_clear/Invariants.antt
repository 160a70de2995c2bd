-- `search::not_clear`: the search is what is left of it, from a row and a column on. Assumes nothing.
use Rattle.std.proofs.Common.{◌≡◌, ℕ, ◌+◌, ◌*◌}
use Rattle.std.specs.Prelude.{None}
use Rattle.plan.specs.Masks.{in_mask}
use Rattle.cells.proofs.Searching.{rows_left, cells_left}
use Rattle.search.proofs.not_clear.Given as goal

abbrev pub invariant-rows : goal.invariant-rows
invariant-rows l = (l.found ≡ None) × ((number first : ℕ) → rows_left (in_mask l.mask) l.labels l.rows l.columns number first 0 l.at ≡ rows_left (in_mask l.mask) l.labels l.rows l.columns number first l.row (l.at + l.row * l.columns))

abbrev pub invariant-loop-column : goal.invariant-loop-column
invariant-loop-column l = (l.found ≡ None) × ((number first : ℕ) → rows_left (in_mask l.mask) l.labels l.rows l.columns number first 0 l.at ≡ cells_left (in_mask l.mask) l.labels l.rows l.columns number first l.row l.column (l.at + l.row * l.columns + l.column))
