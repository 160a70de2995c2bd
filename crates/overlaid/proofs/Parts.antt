-- The labels of an overlay's part that 22 has passed. Assumes nothing.
use Prim.Native.Nat.{ℕ, zero, suc, ◌+◌, ◌*◌, ◌<◌}
use mathlib.Core.Path.{◌≡◌, refl, sym, ap, ◌∙◌}
use mathlib.Core.Bool.{Bool, true, false, not, ◌&&◌, ◌||◌, true≢false, and-eq-true_iff}
use mathlib.Core.List.{List, [], ◌∷◌, ◌++◌}
use native.Mathlib.Nat.{suc-mul, add-zero, add-suc, suc-add, zero-add}
use native.Mathlib.Omega.{arith}
use lib.Dec.{eqb}
use borrow.Author.Tests.{eqb-true, eq-eqb, not-false}
use Rattle.input.specs.Verdict.{accepted}
use Rattle.input.proofs.Laws.{both, passed}
use Rattle.label_words.specs.WellFormed.{well_formed}
use Rattle.overlay_part.specs.Labels.{label_fits, check_row, check_rows}
use Rattle.overlay_part.specs.OverlayPart.{label_place, label_in}
use Rattle.plan.specs.Table.{Each, clear}
use Rattle.plan.proofs.SenseEach.{each_append}
use Rattle.table_part.specs.TablePart.{columns_of, sheets_of}

abbrev pub Formed : ℕ → Type 0
Formed label = well_formed label ≡ true

-- so many labels of a part from one on
abbrev pub labels_from : List ℕ → ℕ → ℕ → List ℕ
labels_from part cell zero = []
labels_from part cell (suc more) = label_in part cell ∷ labels_from part (suc cell) more

labels_append : (part : List ℕ) (cell m n : ℕ) → labels_from part cell (m + n) ≡ labels_from part cell m ++ labels_from part (cell + m) n
labels_append part cell zero n = rw (zero-add n, add-zero cell)
labels_append part cell (suc m) n =
    rw (suc-add m n, add-suc cell m) (ap (λ (l : List ℕ). label_in part cell ∷ l) (labels_append part (suc cell) m n ∙ rw (suc-add cell m)))

-- a label in the column of sheet numbers is clear
sheet-clear : (formed : Bool) (clear sheet : Bool) → (formed && (clear || not sheet)) ≡ true → sheet ≡ true → clear ≡ true
sheet-clear true true sheet e s = refl
sheet-clear true false true e s = absurd (true≢false (sym e))
sheet-clear true false false e s = absurd (true≢false (sym s))
sheet-clear false clear sheet e s = absurd (true≢false (sym e))

module _ (part : List ℕ) (at : ℕ) where
  -- what a label that is let through is
  module _ (cell column more : ℕ) (e : check_row part at cell column (suc more) ≡ accepted) where
    test : (label_fits (sheets_of part) column (label_in part cell) ≡ true) × (check_row part at (suc cell) (suc column) more ≡ accepted)
    test = let p = passed (not (label_fits (sheets_of part) column (label_in part cell))) 22 (at + label_place cell) _ e in (not-false _ p.0, p.1)

  row-formed : (cell column more : ℕ) → check_row part at cell column more ≡ accepted → Each Formed (labels_from part cell more)
  row-formed cell column zero e = tt
  row-formed cell column (suc more) e =
      let t = test cell column more e in
      (((and-eq-true_iff (well_formed (label_in part cell)) _).0 t.0).0, row-formed (suc cell) (suc column) more t.1)

  pub rows-formed : (cell more : ℕ) → check_rows part at cell more ≡ accepted → Each Formed (labels_from part cell (more * columns_of part))
  rows-formed cell zero e = let z : 0 * columns_of part ≡ 0 = omega arith in rw z tt
  rows-formed cell (suc more) e =
      let b = both (check_row part at cell 0 (columns_of part)) _ e in
      let n : suc more * columns_of part ≡ columns_of part + more * columns_of part = omega (arith, suc-mul more (columns_of part)) in
      rw (n, labels_append part cell (columns_of part) (more * columns_of part))
      (each_append Formed (labels_from part cell (columns_of part)) _ (row-formed cell 0 (columns_of part) b.0) (rows-formed (cell + columns_of part) more b.1))

  row-sheet : (cell column more : ℕ) → check_row part at cell column more ≡ accepted → (j : ℕ) → j < more → sheets_of part ≡ suc (column + j)
      → label_in part (cell + j) ≡ 0
  row-sheet cell column zero e j h s = absurd (omega arith)
  row-sheet cell column (suc more) e zero h s =
      rw (add-zero cell)
      (eqb-true _ 0 (sheet-clear (well_formed (label_in part cell)) (clear (label_in part cell)) (eqb (sheets_of part) (suc column)) (test cell column more e).0 (eq-eqb _ _ (s ∙ ap suc (add-zero column)))))
  row-sheet cell column (suc more) e (suc j) h s =
      rw (add-suc cell j ∙ sym (suc-add cell j))
      (row-sheet (suc cell) (suc column) more (test cell column more e).1 j (omega arith) (s ∙ ap suc (add-suc column j ∙ sym (suc-add column j))))

  pub rows-sheet : (cell more : ℕ) → check_rows part at cell more ≡ accepted → (column : ℕ) → sheets_of part ≡ suc column → column < columns_of part
      → (row : ℕ) → row < more → label_in part (cell + (row * columns_of part + column)) ≡ 0
  rows-sheet cell zero e column s c row h = absurd (omega arith)
  rows-sheet cell (suc more) e column s c zero h =
      let z : 0 * columns_of part + column ≡ column = omega arith in
      rw z (row-sheet cell 0 (columns_of part) (both (check_row part at cell 0 (columns_of part)) _ e).0 column c (s ∙ ap suc (sym (zero-add column))))
  rows-sheet cell (suc more) e column s c (suc row) h =
      let n : cell + (suc row * columns_of part + column) ≡ cell + columns_of part + (row * columns_of part + column) = omega (arith, suc-mul row (columns_of part)) in
      rw n (rows-sheet (cell + columns_of part) more (both (check_row part at cell 0 (columns_of part)) _ e).1 column s c row (omega arith))
