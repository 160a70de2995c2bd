-- What reading a table's cells into two lent slices answers, and what the slices hold afterwards.
use Rattle.std.specs.Prelude.{ℕ, ◌+◌, ◌*◌, ◌≡◌, Bool, cond, ◌&&◌, List, ◌++◌, map, leb, ℤ, Option, Some, None, length, take, drop}
use Rattle.table_part.specs.TablePart.{cell_count, cells_from}
use Rattle.table_part.specs.declared.Shape.{Shape}
use Rattle.table_part.specs.promises.Shape.{shape_of}

-- the part has its cells, and two slices of these lengths have room for them from a place on
unfoldable pub readable : List ℕ → ℕ → ℕ → ℕ → Bool
readable part values labels at =
    leb (4 + 12 * cell_count part) (length part) && leb (at + cell_count part) values && leb (at + cell_count part) labels

-- the values and the labels of the first cells of a part
abbrev pub cell_values : List ℕ → ℕ → List ℤ
cell_values part count = map (λ cell. cell.value) (cells_from part 0 count)

abbrev pub cell_labels : List ℕ → ℕ → List ℕ
cell_labels part count = map (λ cell. cell.label) (cells_from part 0 count)

-- the elements from a place on replaced by these
abbrev pub overwritten : {A : Type 0} → List A → ℕ → List A → List A
overwritten old at new = take at old ++ new ++ drop (at + length new) old

-- the answer, and the contents of each slice: its cells' values or labels from the place on, and all else as it was
unfoldable pub reading_of : List ℕ → List ℤ → List ℕ → ℕ → Option Shape
reading_of part values labels at = cond (readable part (length values) (length labels) at) (Some (shape_of part)) None

unfoldable pub values_after : List ℕ → List ℤ → List ℕ → ℕ → List ℤ
values_after part values labels at =
    cond (readable part (length values) (length labels) at) (overwritten values at (cell_values part (cell_count part))) values

unfoldable pub labels_after : List ℕ → List ℤ → List ℕ → ℕ → List ℕ
labels_after part values labels at =
    cond (readable part (length values) (length labels) at) (overwritten labels at (cell_labels part (cell_count part))) labels

pub record Read (part : List ℕ) (values : List ℤ) (labels : List ℕ) (at : ℕ)
    (answer : Option Shape) (new_values : List ℤ) (new_labels : List ℕ) : Type 0 where
  pub answers : answer ≡ reading_of part values labels at
  pub writes_values : new_values ≡ values_after part values labels at
  pub writes_labels : new_labels ≡ labels_after part values labels at
