-- Alike cells, rows and tables. Assumes nothing.
use Prim.Native.Nat.{ℕ, zero, suc, ◌+◌}
use mathlib.Core.Path.{◌≡◌, refl, sym, ap, ◌∙◌}
use mathlib.Core.Bool.{Bool, true, false, not, ◌&&◌}
use mathlib.Core.List.{List, [], ◌∷◌, map}
use native.Mathlib.Nat.{zero-add, add-zero, add-suc, suc-add}
use native.Mathlib.Omega.{arith}
use lib.ListN.{get_or, get_or-map}
use borrow.Author.Tests.{eqb-true, not-false}
use Rattle.plan.specs.Secrecy.{Pairwise, none, more, AlikeCells, AlikeRows, AlikeMarked}
use Rattle.plan.specs.Table.{Row, Table, clear, blank, cell_at, labels_of, grid}
use Rattle.plan.specs.Verdict.{Verdict, fine, refused, or_else, refuse_if, first_row, first_not_clear}
use Rattle.plan.specs.declared.Step.{Step}
use Rattle.plan.proofs.LockedLaws.{clear-open}
use Rattle.plan.proofs.Pairs.{both-get, maps-same}

-- ---- a test that finds nothing

pub never : {number row column : ℕ} → refused number row column ≡ fine → ⊥
never e = let z : ◌≡◌ {A = ℕ} 0 1 = cc in omega arith

pub or-fine : (v w : Verdict) → or_else v w ≡ fine → (v ≡ fine) × (w ≡ fine)
or-fine fine w e = (refl, e)
or-fine (refused number row column) w e = absurd (never e)

pub if-fine : (fact : Bool) (number row column : ℕ) → refuse_if fact number row column ≡ fine → fact ≡ false
if-fine true number row column e = absurd (never e)
if-fine false number row column e = refl

-- where no cell of the wanted columns is found, each of them is clear
pub all-clear : (wanted : ℕ → Bool) (number column row : ℕ) (labels : List ℕ) → first_not_clear wanted number column row labels ≡ fine
    → (i : ℕ) → wanted (column + i) ≡ true → get_or labels i 0 ≡ 0
all-clear wanted number column row [] e i w = refl
all-clear wanted number column row (label ∷ rest) e zero w =
    let h = (or-fine (refuse_if (wanted column && not (clear label)) number row column) _ e).0 in
    eqb-true label 0 (not-false (clear label) (rw (rw add-zero at w) at (if-fine (wanted column && not (clear label)) number row column h)))
all-clear wanted number column row (label ∷ rest) e (suc i) w =
    all-clear wanted number (suc column) row rest (or-fine (refuse_if (wanted column && not (clear label)) number row column) _ e).1 i
    (ap wanted (suc-add column i ∙ sym (add-suc column i)) ∙ w)

module _ (plan : List Step) where
  pub blank-alike : AlikeCells plan blank blank
  blank-alike = record { labels = refl; values = λ _. refl }

  pub cells-alike : (column : ℕ) {a b : Row} → AlikeRows plan a b → AlikeCells plan (cell_at column a) (cell_at column b)
  cells-alike column r = both-get column blank blank-alike r.cells

  -- alike rows have the same labels, and alike tables the same grid
  pub same-labels : {a b : Row} → AlikeRows plan a b → labels_of a ≡ labels_of b
  same-labels r = maps-same (λ cell. cell.label) (λ x y c. c.labels) r.cells

  pub same-grid : {a b : Table} → AlikeMarked plan a b → grid a ≡ grid b
  same-grid t = maps-same labels_of (λ x y r. same-labels r) t.rows

  -- a clear cell has the same value in both
  pub same-value : (column : ℕ) {a b : Row} → AlikeRows plan a b → get_or (labels_of a) column 0 ≡ 0 → (cell_at column a).value ≡ (cell_at column b).value
  same-value column {a} r e =
      let l : (cell_at column a).label ≡ 0 = sym (get_or-map (λ cell. cell.label) a.cells column blank) ∙ e in
      (cells-alike column r).values (rw l (clear-open plan))

  -- Rows that are alike, where a test of the first's labels finds nothing. A test that finds nothing in a table finds nothing in each row.
  pub record Tested (test : ℕ → List ℕ → Verdict) (a b : Row) : Type 0 where
    pub alike : AlikeRows plan a b
    pub at : ℕ
    pub nothing : test at (labels_of a) ≡ fine

  pub tested : (test : ℕ → List ℕ → Verdict) (row : ℕ) {xs ys : List Row} → Pairwise (AlikeRows plan) xs ys
      → first_row test row (map labels_of xs) ≡ fine → Pairwise (Tested test) xs ys
  tested test row none e = none
  tested test row (more {x = a} r p) e =
      let h = or-fine (test row (labels_of a)) _ e in
      more record { alike = r; at = row; nothing = h.0 } (tested test (suc row) p h.1)

  pub forget : (test : ℕ → List ℕ → Verdict) {xs ys : List Row} → Pairwise (Tested test) xs ys → Pairwise (AlikeRows plan) xs ys
  forget test none = none
  forget test (more t p) = more t.alike (forget test p)

  -- a cell that such a test reads has the same value in both
  pub read_same : (wanted : ℕ → Bool) (number column : ℕ) → wanted column ≡ true → {a b : Row} → Tested (first_not_clear wanted number 0) a b
      → (cell_at column a).value ≡ (cell_at column b).value
  read_same wanted number column w {a} t =
      same-value column t.alike (all-clear wanted number 0 t.at (labels_of a) t.nothing column (rw zero-add w))
