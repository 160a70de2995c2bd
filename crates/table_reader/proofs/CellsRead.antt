-- The cells of a table, copied one by one. Assumes nothing.
use Prim.Native.Nat.{ℕ, zero, suc, ◌+◌, ◌*◌, ◌≤◌, ◌<◌}
use mathlib.Core.Path.{◌≡◌, sym, ap, ◌∙◌}
use mathlib.Core.Bool.{Bool, true, false, ◌&&◌, and-eq-true_iff}
use mathlib.Core.List.{List, map}
use native.Mathlib.Nat.{add-zero, add-suc, suc-add, zero-add}
use native.Mathlib.Numerals.{add-one}
use native.Mathlib.Omega.{arith}
use lib.Dec.{leb}
use lib.IntN.{ℤ}
use lib.ListN.{length, get_or, set, length-map, get_or-map}
use lib.Seq.{take_all, paste, paste-suc}
use borrow.Author.Tests.{leb-true}
use Rattle.cells.specs.promises.Cells.{within}
use Rattle.cells.proofs.CellLaws.{within-le}
use Rattle.plan.specs.Table.{Cell, blank}
use Rattle.table_part.specs.TablePart.{cell_count, value_of, label_of, cells_from}
use Rattle.table_part.specs.declared.Shape.{Shape}
use Rattle.table_part.specs.promises.Shape.{shape_of}
use Rattle.std.proofs.lemmas.Grind.{common_steps}
use Rattle.std.specs.Prelude.{Some, None}
use Rattle.table_reader.specs.promises.Reading.{readable, overwritten, reading_of, values_after, labels_after, Read}
use Rattle.table_part.proofs.Laws.{cells-length}

abbrev pub cell_of : List ℕ → ℕ → Cell
cell_of part cell = record { value = value_of part cell; label = label_of part cell }

cell-at : (part : List ℕ) (cell n j : ℕ) → j < n → get_or (cells_from part cell n) j blank ≡ cell_of part (cell + j)
cell-at part cell zero j h = absurd (omega arith)
cell-at part cell (suc n) zero h = ap (cell_of part) (sym (add-zero cell))
cell-at part cell (suc n) (suc j) h = cell-at part (suc cell) n j (omega arith) ∙ ap (cell_of part) (suc-add cell j ∙ sym (add-suc cell j))

-- a slice that takes one thing of each cell
module _ {A : Type 0} (f : Cell → A) (part : List ℕ) (count : ℕ) where
  abbrev pub news : List A
  news = map f (cells_from part 0 count)

  news-length : length news ≡ count
  news-length = length-map (cells_from part 0 count) f ∙ cells-length part 0 count

  pub copy_more : (old new : List A) (at k : ℕ) (x : A) → at + count ≤ length old → k < count → new ≡ paste old at news k → x ≡ f (cell_of part k)
      → set new (at + k) x ≡ paste old at news (k + 1)
  copy_more old new at k x room h s e =
      let n : length news ≡ count = news-length in
      let g : get_or news k (f blank) ≡ x = get_or-map f (cells_from part 0 count) k blank ∙ ap f
      (cell-at part 0 count k h ∙ ap (cell_of part) (zero-add k)) ∙ sym e in
      rw (s, add-one k, ← g) (paste-suc old at news k (f blank) (omega arith) (omega arith))

  pub copy-all : (old : List A) (at k : ℕ) → k ≡ count → paste old at news k ≡ overwritten old at news
  copy-all old at k e = rw (news-length, e, take_all count news (omega (arith, news-length)))

within-room : (from count n : ℕ) → within from count n ≡ leb (from + count) n
within-room from count n = grind (arith, common_steps)

-- the three tests of a reading
module _ (part : List ℕ) (values : List ℤ) (labels : List ℕ) (at count : ℕ) (e : count ≡ cell_count part) (a b : Bool)
    (ea : a ≡ within at count (length values)) (eb : b ≡ within at count (length labels)) where
  pub tests : (leb (4 + 12 * count) (length part) && a && b) ≡ readable part (length values) (length labels) at
  unfolding readable
  tests = rw (ea, eb, within-room at count (length values), within-room at count (length labels), e)

  pub rooms : (leb (4 + 12 * count) (length part) && a && b) ≡ true
      → (4 + 12 * count ≤ length part) × (at + count ≤ length values) × (at + count ≤ length labels)
  rooms t =
      let p = (and-eq-true_iff (leb (4 + 12 * count) (length part) && a) b).0 t in
      let q = (and-eq-true_iff (leb (4 + 12 * count) (length part)) a).0 p.0 in
      (leb-true (4 + 12 * count) (length part) q.0, within-le at count (length values) (sym ea ∙ q.1), within-le at count (length labels) (sym eb ∙ p.1))

module _ (part : List ℕ) (values : List ℤ) (labels : List ℕ) (at : ℕ) where
  pub not-read : readable part (length values) (length labels) at ≡ false → Read part values labels at None values labels
  unfolding reading_of values_after labels_after
  not-read t = record { answers = rw t; writes_values = rw t; writes_labels = rw t }

  pub all_read : readable part (length values) (length labels) at ≡ true → (shape : Shape) (v : List ℤ) (l : List ℕ) → shape ≡ shape_of part
      → v ≡ overwritten values at (news (λ cell. cell.value) part (cell_count part)) → l ≡ overwritten labels at (news (λ cell. cell.label) part (cell_count part))
      → Read part values labels at (Some shape) v l
  unfolding reading_of values_after labels_after
  all_read t shape v l e f g = record { answers = rw (t, e); writes_values = rw t f; writes_labels = rw t g }
