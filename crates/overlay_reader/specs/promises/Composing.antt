-- The labels of a table in work memory after an overlay's were composed onto them.
use Rattle.std.specs.Prelude.{ℕ, suc, ◌+◌, ◌*◌, cond, not, ◌&&◌, List, [], ◌∷◌, ◌++◌, eqb, length, take, drop}
use Rattle.cells.specs.promises.Search.{table_within}
use Rattle.label_composition.specs.Composition.{composed}
use Rattle.label_words.specs.WellFormed.{well_formed}
use Rattle.layout.specs.Layout.{part_of}
use Rattle.overlay_part.specs.OverlayPart.{label_in}

-- the composition of two labels; a word that is none, or meets none, stays
abbrev pub composed_or : ℕ → ℕ → ℕ
composed_or label other = cond (well_formed label && well_formed other) (composed label other) label

-- labels from a cell on, each with the part's
abbrev pub composed_labels : List ℕ → ℕ → List ℕ → List ℕ
composed_labels part cell [] = []
composed_labels part cell (label ∷ rest) = composed_or label (label_in part cell) ∷ composed_labels part (suc cell) rest

-- so many labels from a place on, and all else as it was
abbrev pub composed_at : List ℕ → ℕ → ℕ → List ℕ → List ℕ
composed_at part at count labels = take at labels ++ (composed_labels part 0 (take count (drop at labels)) ++ drop (at + count) labels)

-- the labels of the table of so many rows and columns at a place, whose number in the container is given. Where there is no overlay, or no such table
-- within the labels, nothing changes.
unfoldable pub after_overlay : List ℕ → ℕ → ℕ → ℕ → ℕ → List ℕ → List ℕ
after_overlay overlay table at rows columns labels =
    cond (not (eqb (length overlay) 0) && table_within at rows columns (length labels))
    (composed_at (part_of overlay table) at (rows * columns) labels) labels
