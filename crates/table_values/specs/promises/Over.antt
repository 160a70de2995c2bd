-- "36: no 35, but a cell is OVER", of a table in memory: the values alone decide it.
use Rattle.std.specs.Prelude.{ℕ, zero, suc, cond, not, List, [], ◌∷◌, ℤ, length, take, drop}
use Rattle.cells.specs.promises.Search.{Reply, says, unfit, table_within}
use Rattle.plan.specs.Verdict.{Verdict, fine, or_else, refuse_if}
use Rattle.value.specs.Range.{in_range}

-- the first value out of range of one row, the values numbered from `column` on
abbrev pub over_from : ℕ → ℕ → List ℤ → Verdict
over_from row column [] = fine
over_from row column (value ∷ rest) = or_else (refuse_if (not (in_range value)) 36 row column) (over_from row (suc column) rest)

-- the first one of so many rows of so many columns, the rows numbered from `first` on
abbrev pub first_over_in : ℕ → ℕ → ℕ → List ℤ → Verdict
first_over_in first columns zero values = fine
first_over_in first columns (suc rows) values = or_else (over_from first 0 (take columns values)) (first_over_in (suc first) columns rows (drop columns values))

-- the same of the table of so many rows and columns from a place on
abbrev pub first_over_at : ℕ → List ℤ → ℕ → ℕ → ℕ → Reply
first_over_at first values at rows columns =
    cond (table_within at rows columns (length values)) (says (first_over_in first columns rows (drop at values))) unfit
