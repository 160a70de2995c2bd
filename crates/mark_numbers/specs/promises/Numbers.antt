-- For each row the first row with its mark.
use Rattle.std.specs.Prelude.{ℕ, zero, suc, ◌-◌, ◌<◌, ◌≡◌, cond, ◌&&◌, List, [], ◌∷◌, ◌++◌, eqb, leb, length, get_or, take, drop, replicate, Option, Some, None}
use Rattle.cells.specs.promises.Cells.{within}

-- the place of the first mark that is this one; where there is none, how many they are
abbrev pub first_same : ℕ → List ℕ → ℕ
first_same mark [] = 0
first_same mark (other ∷ rest) = cond (eqb other mark) 0 (suc (first_same mark rest))

-- the first row with the mark of a row
abbrev pub first_of : List ℕ → ℕ → ℕ
first_of marks row = first_same (get_or marks row 0) marks

-- a guess at it: an earlier row that is the first with its own mark; none where it is the row itself
abbrev pub Guess : List ℕ → ℕ → Option ℕ → Type 0
Guess marks row None = first_of marks row ≡ row
Guess marks row (Some before) = (before < row) × (first_of marks before ≡ before)

-- the first rows with the marks of so many rows from one on
abbrev pub firsts_from : List ℕ → ℕ → ℕ → List ℕ
firsts_from marks row zero = []
firsts_from marks row (suc more) = first_of marks row ∷ firsts_from marks (suc row) more

-- of so many rows, and zeros for 256 numbers in all
abbrev pub numbers_upto : List ℕ → ℕ → List ℕ
numbers_upto marks rows = firsts_from marks 0 rows ++ replicate (256 - rows) 0

-- of all rows
abbrev pub numbers_of : List ℕ → List ℕ
numbers_of marks = numbers_upto marks (length marks)

-- these where there are at most 256 rows, whose marks are within the slice; else zeros
unfoldable pub numbers_at : List ℕ → ℕ → ℕ → List ℕ
numbers_at marks at rows = cond (leb rows 256 && within at rows (length marks)) (numbers_of (take rows (drop at marks))) (replicate 256 0)
