-- "A release writes the rows to the output, row by row from its start".
use Rattle.std.specs.Prelude.{ℕ, Bool, ◌&&◌, List, ◌++◌, leb, ℤ, length, take, drop}
use Rattle.cells.specs.promises.Cells.{within}

-- the values lie within their slice, and the output has room for them
abbrev pub copies : List ℤ → ℕ → ℕ → List ℤ → Bool
copies values at count output = within at count (length values) && leb count (length output)

-- the values, and what is left of the output
abbrev pub copied : List ℤ → ℕ → ℕ → List ℤ → List ℤ
copied values at count output = take count (drop at values) ++ drop count output
