-- The labels of a table in work memory, as a rule year reads them.
use Rattle.std.specs.Prelude.{ℕ, ◌+◌, ◌*◌, cond, List, ◌++◌, map, length, take, drop}
use Rattle.cells.specs.promises.Search.{table_within}
use Rattle.label_floor.specs.Floor.{floored}

-- so many labels from a place on, and all else as it was
abbrev pub floored_at : ℕ → ℕ → ℕ → List ℕ → List ℕ
floored_at year at count labels = take at labels ++ (map (floored year) (take count (drop at labels)) ++ drop (at + count) labels)

-- the labels of the table of so many rows and columns at a place. Where there is no such table within the labels, nothing changes.
unfoldable pub after_floor : ℕ → ℕ → ℕ → ℕ → List ℕ → List ℕ
after_floor year at rows columns labels = cond (table_within at rows columns (length labels)) (floored_at year at (rows * columns) labels) labels
