-- What a step answers before it is made: nothing, or the first refusal. "The first cell met row by row, left to right, gives the place."
use Rattle.std.specs.Prelude.{ℕ, suc, Bool, cond, not, ◌&&◌, List, [], ◌∷◌}
use Rattle.plan.specs.Table.{clear}

pub data Verdict : Type 0 where
  fine : Verdict
  refused : ℕ → ℕ → ℕ → Verdict  -- a number, a row and a column

-- the first refusal of two
abbrev pub or_else : Verdict → Verdict → Verdict
or_else fine later = later
or_else (refused number row column) later = refused number row column

-- a refusal, if the fact holds
abbrev pub refuse_if : Bool → ℕ → ℕ → ℕ → Verdict
refuse_if fact number row column = cond fact (refused number row column) fine

-- the first refusal of a test of each row, the rows numbered from `row` on
abbrev pub first_row : (ℕ → List ℕ → Verdict) → ℕ → List (List ℕ) → Verdict
first_row test row [] = fine
first_row test row (labels ∷ rest) = or_else (test row labels) (first_row test (suc row) rest)

-- the first cell of one row, in the columns wanted, that is not clear; the cells are numbered from `column` on
abbrev pub first_not_clear : (ℕ → Bool) → ℕ → ℕ → ℕ → List ℕ → Verdict
first_not_clear wanted number column row [] = fine
first_not_clear wanted number column row (label ∷ rest) =
    or_else (refuse_if (wanted column && not (clear label)) number row column) (first_not_clear wanted number (suc column) row rest)

-- the first cell of a table, in the columns wanted, that is not clear
abbrev pub not_clear : (ℕ → Bool) → ℕ → ℕ → List (List ℕ) → Verdict
not_clear wanted number = first_row (first_not_clear wanted number 0)
