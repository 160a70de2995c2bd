-- The rows of a table, one after the other, and their leaders. Assumes nothing.
use Prim.Native.Nat.{ℕ, suc, ◌+◌, ◌-◌, ◌*◌, ◌≤◌, ◌<◌}
use mathlib.Core.Path.{◌≡◌, sym, ap, ap₂, ◌∙◌}
use mathlib.Core.List.{List, [], ◌∷◌, ◌++◌, append-nil, append_assoc}
use native.Mathlib.Numerals.{add-one}
use native.Mathlib.Omega.{arith}
use lib.ListN.{length, get_or, take, drop, set}
use lib.Seq.{drop-drop, take-suc-set}
use Rattle.cells.specs.promises.Cells.{bare_row, bare_rows, row_from, table_rows}
use Rattle.chains.specs.promises.Chains.{first_same, first_of, leaders_after}
use Rattle.plan.specs.Table.{Cell, Row}
use Rattle.cells.proofs.Rows.{row_at, rows-length, rows-more}
use Rattle.chains.proofs.Leaders.{leader-upto}

-- the rows from one on, whose first cell stands at a place
pub rows_next : (columns rows row place : ℕ) (memory : List Cell) → row < rows
    → bare_rows columns (rows - row) (drop place memory) ≡ row_from columns memory place ∷ bare_rows columns (rows - (row + 1)) (drop (place + columns) memory)
rows_next columns rows row place memory h =
    let e : rows - row ≡ suc (rows - (row + 1)) = omega arith in
    rw (e, drop-drop columns place memory)

-- one row of a table
pub row-of : (columns rows at : ℕ) (memory : List Cell) (row : ℕ) (d : Row) → row < rows → get_or (table_rows columns rows memory at) row d ≡ row_from columns memory (at + row * columns)
row-of columns rows at memory row d h = row_at columns rows row (drop at memory) d h ∙ ap (λ (l : List Cell). bare_row (take columns l)) (drop-drop (row * columns) at memory)

-- one row more is led
module _ (keys columns : ℕ) where
  leaders-last : (earlier rows : List Row) (row : Row)
      → leaders_after keys columns earlier (rows ++ (row ∷ [])) ≡ leaders_after keys columns earlier rows ++ (first_same keys columns row (earlier ++ rows) ∷ [])
  leaders-last earlier [] row = ap (λ (l : List Row). first_same keys columns row l ∷ []) (sym (append-nil earlier))
  leaders-last earlier (next ∷ rest) row =
      ap (λ (l : List ℕ). first_same keys columns next earlier ∷ l)
      (leaders-last (earlier ++ (next ∷ [])) rest row
      ∙ ap (λ (l : List Row). leaders_after keys columns (earlier ++ (next ∷ [])) rest ++ (first_same keys columns row l ∷ [])) (append_assoc earlier (next ∷ []) rest))

  pub leaders-more : (at row leader : ℕ) (memory : List Cell) (found : List ℕ) → row < length found
      → take row found ≡ leaders_after keys columns [] (table_rows columns row memory at) → leader ≡ first_of keys columns row memory at
      → take (row + 1) (set found row leader) ≡ leaders_after keys columns [] (table_rows columns (row + 1) memory at)
  leaders-more at row leader memory found k e f =
      let R = table_rows columns row memory at in
      let more : bare_rows columns (suc row) (drop at memory) ≡ R ++ (row_from columns memory (at + row * columns) ∷ [])
      = rows-more columns row (drop at memory) ∙ ap (λ (l : List Cell). R ++ (bare_row (take columns l) ∷ [])) (drop-drop (row * columns) at memory) in
      rw (add-one row) (take-suc-set found row leader k ∙ ap₂ ◌++◌ e (ap (λ (n : ℕ). n ∷ []) f)
      ∙ sym (leaders-last [] R (row_from columns memory (at + row * columns))) ∙ ap (leaders_after keys columns []) (sym more))

-- a row is not led by a later one
pub leader-before : (keys columns rows at : ℕ) (memory : List Cell) (leaders : List ℕ) → take rows leaders ≡ leaders_after keys columns [] (table_rows columns rows memory at)
    → (row : ℕ) → row < rows → get_or leaders row 0 ≤ row
leader-before keys columns rows at memory leaders known row h =
    let n = rows-length columns rows (drop at memory) in
    let here = row_from columns memory (at + row * columns) in
    leader-upto keys columns (table_rows columns rows memory at) leaders (rw n known) row here (rw n h) (row-of columns rows at memory row here h)
