-- Cells as rows, and rows as cells. Assumes nothing.
use Prim.Native.Nat.{ℕ, zero, suc, ◌+◌, ◌*◌, ◌≤◌, ◌<◌}
use mathlib.Core.Path.{◌≡◌, refl, sym, ap, ap₂, ◌∙◌}
use mathlib.Core.List.{List, [], ◌∷◌, ◌++◌, map, append_assoc}
use native.Mathlib.Nat.{zero-mul, le_of_suc-le-suc, not-suc-le-zero}
use native.Mathlib.Omega.{arith}
use lib.IntN.{ℤ}
use lib.ListN.{length, get_or, take, drop, length-drop, length-replicate, get_or-replicate}
use lib.Seq.{length-take-le, take_at, drop_at, take-add, drop-drop, get_or-take, get_or-drop, take-take}
use Rattle.cells.specs.promises.Cells.{cells_of, grid_of, bare_row, no_marks, bare_rows, Wide}
use Rattle.cells.specs.promises.Work.{work}
use Rattle.plan.specs.Table.{Cell, Row, blank, labels_of, rows_of, flat, Each}
use Rattle.cells.proofs.CellLaws.{cells-drop, labels-front}

-- ---- rows with marks

-- rows written one after the other are read back
pub rows-flat : (w : ℕ) (rows : List Row) (rest : List Cell) → Each (Wide w) rows → rows_of w (map (λ row. row.mark) rows) (flat rows ++ rest) ≡ rows
rows-flat w [] rest e = refl
rows-flat w (row ∷ rows) rest e =
    let whole : (row.cells ++ flat rows) ++ rest ≡ row.cells ++ (flat rows ++ rest) = append_assoc row.cells (flat rows) rest in
    let first : take w ((row.cells ++ flat rows) ++ rest) ≡ row.cells = ap (take w) whole ∙ take_at row.cells (flat rows ++ rest) w e.0 in
    let later : drop w ((row.cells ++ flat rows) ++ rest) ≡ flat rows ++ rest = ap (drop w) whole ∙ drop_at row.cells (flat rows ++ rest) w e.0 in
    ap₂ ◌∷◌ (λ i. record { cells = first i; mark = row.mark }) (ap (rows_of w (map (λ row. row.mark) rows)) later ∙ rows-flat w rows rest e.1)

pub marked-length : (w : ℕ) (marks : List ℕ) (cells : List Cell) → length (rows_of w marks cells) ≡ length marks
marked-length w [] cells = refl
marked-length w (mark ∷ marks) cells = ap suc (marked-length w marks (drop w cells))

pub marks-are : (w : ℕ) (marks : List ℕ) (cells : List Cell) → map (λ row. row.mark) (rows_of w marks cells) ≡ marks
marks-are w [] cells = refl
marks-are w (mark ∷ marks) cells = ap (λ (rest : List ℕ). mark ∷ rest) (marks-are w marks (drop w cells))

pub marked-wide : (w : ℕ) (marks : List ℕ) (cells : List Cell) → length marks * w ≤ length cells → Each (Wide w) (rows_of w marks cells)
marked-wide w [] cells h = tt
marked-wide w (mark ∷ marks) cells h = (length-take-le w cells (omega arith), marked-wide w marks (drop w cells) (simp length-drop (omega arith)))

-- the cells of a row, and those after it
after-row : (w m : ℕ) (l : List Cell) → w ≤ length l → drop w (take (w + m) l) ≡ take m (drop w l)
after-row w m l h = ap (drop w) (take-add w m l) ∙ drop_at (take w l) (take m (drop w l)) w (length-take-le w l h)

-- the rows of equal cells are equal
pub marked-same : (w : ℕ) (marks : List ℕ) (cells others : List Cell) → length marks * w ≤ length cells → length marks * w ≤ length others
    → take (length marks * w) cells ≡ take (length marks * w) others → rows_of w marks cells ≡ rows_of w marks others
marked-same w [] cells others h k e = refl
marked-same w (mark ∷ marks) cells others h k e =
    let n = length marks in
    let sum : suc n * w ≡ w + n * w = omega arith in
    let f : take (w + n * w) cells ≡ take (w + n * w) others = rw (← sum) e in
    let heads : take w cells ≡ take w others = sym (take-take w (w + n * w) cells (omega arith)) ∙ ap (take w) f ∙ take-take w (w + n * w) others (omega arith) in
    let tails : take (n * w) (drop w cells) ≡ take (n * w) (drop w others)
    = sym (after-row w (n * w) cells (omega arith)) ∙ ap (drop w) f ∙ after-row w (n * w) others (omega arith) in
    ap₂ ◌∷◌ (λ i. record { cells = heads i; mark = mark }) (marked-same w marks (drop w cells) (drop w others) (simp length-drop (omega arith)) (simp length-drop (omega arith)) tails)

-- one row more, at the end
pub marked_more : (w : ℕ) (marks : List ℕ) (mark : ℕ) (cells : List Cell)
    → rows_of w (marks ++ (mark ∷ [])) cells ≡ rows_of w marks cells ++ (record { cells = take w (drop (length marks * w) cells); mark = mark } ∷ [])
marked_more w [] mark cells = ap (λ (k : ℕ). record { cells = take w (drop k cells); mark = mark } ∷ []) (sym (zero-mul w))
marked_more w (first ∷ marks) mark cells =
    let n = length marks in
    let e : w + n * w ≡ suc n * w = omega arith in
    ap (λ (rest : List Row). record { cells = take w cells; mark = first } ∷ rest)
    (marked_more w marks mark (drop w cells)
    ∙ ap (λ (l : List Cell). rows_of w marks (drop w cells) ++ (record { cells = take w l; mark = mark } ∷ [])) (drop-drop (n * w) w cells ∙ ap (λ (k : ℕ). drop k cells) e))

-- a row, and a cell of it
pub marked-at : (w r : ℕ) (marks : List ℕ) (cells : List Cell) (d : Row) → r < length marks
    → get_or (rows_of w marks cells) r d ≡ record { cells = take w (drop (r * w) cells); mark = get_or marks r 0 }
marked-at w r [] cells d h = absurd (not-suc-le-zero h)
marked-at w zero (mark ∷ marks) cells d h = ap (λ (k : ℕ). record { cells = take w (drop k cells); mark = mark }) (sym (zero-mul w))
marked-at w (suc r) (mark ∷ marks) cells d h =
    let e : w + r * w ≡ suc r * w = omega arith in
    marked-at w r marks (drop w cells) d (le_of_suc-le-suc h)
    ∙ ap (λ (l : List Cell). record { cells = take w l; mark = get_or marks r 0 }) (drop-drop (r * w) w cells ∙ ap (λ (k : ℕ). drop k cells) e)

pub cell-at : (w r c : ℕ) (cells : List Cell) → c < w → get_or (take w (drop (r * w) cells)) c blank ≡ get_or cells (r * w + c) blank
cell-at w r c cells h = get_or-take w (drop (r * w) cells) c blank h ∙ get_or-drop (r * w) cells c blank

-- the labels of a table in memory are those of the label slice
pub marked-grid : (w : ℕ) (marks : List ℕ) (vs : List ℤ) (ls : List ℕ) → length marks * w ≤ length vs → map labels_of (rows_of w marks (cells_of vs ls)) ≡ grid_of w (length marks) ls
marked-grid w [] vs ls h = refl
marked-grid w (mark ∷ marks) vs ls h =
    ap₂ ◌∷◌ (labels-front (work vs ls) w (omega arith))
    (ap (λ (l : List Cell). map labels_of (rows_of w marks l)) (sym (cells-drop w vs ls)) ∙ marked-grid w marks (drop w vs) (drop w ls) (simp length-drop (omega arith)))

-- ---- rows without marks

-- a row without its mark
abbrev pub bare : Row → Row
bare row = bare_row row.cells

-- rows with marks and without them have the same cells
pub bare-rows : (w : ℕ) (marks : List ℕ) (cells : List Cell) → map bare (rows_of w marks cells) ≡ bare_rows w (length marks) cells
bare-rows w [] cells = refl
bare-rows w (mark ∷ marks) cells = ap (λ (rest : List Row). bare_row (take w cells) ∷ rest) (bare-rows w marks (drop w cells))

pub flat-bare : (rows : List Row) → flat (map bare rows) ≡ flat rows
flat-bare [] = refl
flat-bare (row ∷ rows) = ap (λ (l : List Cell). row.cells ++ l) (flat-bare rows)

-- a function of rows that makes the same cells of a row without its mark
pub flat-same : (f : Row → Row) → ((row : Row) → (f row).cells ≡ (f (bare row)).cells) → (rows : List Row) → flat (map f rows) ≡ flat (map f (map bare rows))
flat-same f same [] = refl
flat-same f same (row ∷ rows) = ap₂ ◌++◌ (same row) (flat-same f same rows)

pub no-marks : (n : ℕ) → length (no_marks n) ≡ n
no-marks n = length-replicate {A = ℕ} n 0

one-more : (n : ℕ) → no_marks (suc n) ≡ no_marks n ++ (0 ∷ [])
one-more zero = refl
one-more (suc n) = ap (λ (marks : List ℕ). 0 ∷ marks) (one-more n)

module _ (w n : ℕ) (cells : List Cell) where
  pub rows-length : length (bare_rows w n cells) ≡ n
  rows-length = marked-length w (no_marks n) cells ∙ no-marks n

  pub rows-wide : n * w ≤ length cells → Each (Wide w) (bare_rows w n cells)
  rows-wide h = marked-wide w (no_marks n) cells (rw (no-marks n) h)

  pub rows-more : bare_rows w (suc n) cells ≡ bare_rows w n cells ++ (bare_row (take w (drop (n * w) cells)) ∷ [])
  rows-more =
      ap (λ (marks : List ℕ). rows_of w marks cells) (one-more n) ∙ marked_more w (no_marks n) 0 cells
      ∙ ap (λ (k : ℕ). bare_rows w n cells ++ (bare_row (take w (drop (k * w) cells)) ∷ [])) (no-marks n)

pub rows_same : (w n : ℕ) (cells others : List Cell) → n * w ≤ length cells → n * w ≤ length others → take (n * w) cells ≡ take (n * w) others
    → bare_rows w n cells ≡ bare_rows w n others
rows_same w n cells others h k e = marked-same w (no_marks n) cells others (rw (no-marks n) h) (rw (no-marks n) k) (rw (no-marks n) e)

pub row_at : (w n r : ℕ) (cells : List Cell) (d : Row) → r < n → get_or (bare_rows w n cells) r d ≡ bare_row (take w (drop (r * w) cells))
row_at w n r cells d h =
    marked-at w r (no_marks n) cells d (rw (no-marks n) h)
    ∙ ap (λ (mark : ℕ). record { cells = take w (drop (r * w) cells); mark = mark }) (get_or-replicate {A = ℕ} n r 0 0 h)

pub grid-rows : (w n : ℕ) (vs : List ℤ) (ls : List ℕ) → n * w ≤ length vs → map labels_of (bare_rows w n (cells_of vs ls)) ≡ grid_of w n ls
grid-rows w n vs ls h = marked-grid w (no_marks n) vs ls (rw (no-marks n) h) ∙ ap (λ (k : ℕ). grid_of w k ls) (no-marks n)
