-- Searches over a table in memory, and what they count.
use Rattle.std.specs.Prelude.{ℕ, ◌+◌, ◌*◌, Bool, cond, ◌&&◌, List, leb, length, drop, Option, Some, None, Result, Ok, Err}
use Rattle.plan.specs.Masks.{in_mask}
use Rattle.cells.specs.promises.Cells.{within, grid_of}
use Rattle.cells.specs.declared.At.{At}
use Rattle.cells.specs.declared.DoesNotFit.{DoesNotFit}
use Rattle.plan.specs.Verdict.{Verdict, fine, refused, not_clear}

-- what a search or a step answers: a verdict, or that its arguments do not fit
pub data Reply : Type 0 where
  says : Verdict → Reply
  unfit : Reply

-- a table of at most 256 rows and 8 columns that lies within a slice
abbrev pub table_within : ℕ → ℕ → ℕ → ℕ → Bool
table_within at rows columns length = leb rows 256 && leb columns 8 && within at (rows * columns) length

-- the refusal of the cell that a search found, under a number, the rows counted from `first` on
abbrev pub place_says : ℕ → ℕ → Result (Option At) DoesNotFit → Reply
place_says number first (Ok (Some at)) = says (refused number (first + at.row) at.column)
place_says number first (Ok None) = says fine
place_says number first (Err wrong) = unfit

-- the first cell, in the columns of a mask, that is not clear
abbrev pub not_clear_at : ℕ → ℕ → List ℕ → ℕ → ℕ → ℕ → ℕ → Reply
not_clear_at number first labels at rows columns mask =
    cond (table_within at rows columns (length labels)) (says (not_clear (in_mask mask) number first (grid_of columns rows (drop at labels)))) unfit
