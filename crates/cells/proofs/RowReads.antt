-- Rows and cells of a table in memory, read. Assumes nothing.
use Prim.Native.Nat.{ℕ, suc, ◌+◌, ◌*◌, ◌<◌}
use mathlib.Core.Path.{◌≡◌, refl, sym, ap, ◌∙◌}
use mathlib.Core.List.{List, [], ◌∷◌, ◌++◌, append_assoc}
use native.Mathlib.Omega.{arith}
use lib.IntN.{pos}
use lib.ListN.{length, get_or, take, drop, length-append}
use lib.Seq.{take-add, drop-drop, get_or-drop}
use Rattle.cells.specs.promises.Cells.{bare_row, no_marks, bare_rows, Wide}
use Rattle.cells.specs.promises.Work.{Work, cells_in}
use Rattle.plan.specs.Table.{Cell, Row, blank, cell_at, rows_of, flat, Each}
use Rattle.cells.proofs.CellLaws.{cells-get}
use Rattle.cells.proofs.Rows.{cell-at, no-marks}

-- the row of a table in memory whose first cell stands `row` rows in
abbrev pub row_of : List Cell → ℕ → ℕ → ℕ → Row
row_of memory at columns row = bare_row (take columns (drop (row * columns) (drop at memory)))

-- the cells of a row of a table in memory
pub row-cells : (memory : List Cell) (at columns row : ℕ) → (row_of memory at columns row).cells ≡ take columns (drop (at + row * columns) memory)
row-cells memory at columns row = ap (take columns) (drop-drop (row * columns) at memory)

-- a cell of it, and its value in the slice
pub cell-of : (memory : List Cell) (at columns row column : ℕ) → column < columns → cell_at column (row_of memory at columns row) ≡ get_or memory (at + row * columns + column) blank
cell-of memory at columns row column h =
    let e : at + (row * columns + column) ≡ at + row * columns + column = omega arith in
    cell-at columns row column (drop at memory) h ∙ get_or-drop at memory (row * columns + column) blank ∙ ap (λ (i : ℕ). get_or memory i blank) e

pub value_of : (memory : List Cell) (w : Work) (i : ℕ) → i < length w.values → i < length w.labels → get_or (cells_in w) i blank ≡ get_or memory i blank
    → (get_or memory i blank).value ≡ get_or w.values i (pos 0)
value_of memory w i v l e = ap (λ (cell : Cell). cell.value) (sym e ∙ cells-get w i (pos 0) v l)

-- ---- the cells of rows

pub flat_append : (xs ys : List Row) → flat (xs ++ ys) ≡ flat xs ++ flat ys
flat_append [] ys = refl
flat_append (x ∷ xs) ys = ap (λ (l : List Cell). x.cells ++ l) (flat_append xs ys) ∙ sym (append_assoc x.cells (flat xs) (flat ys))

pub flat-length : (w : ℕ) (rows : List Row) → Each (Wide w) rows → length (flat rows) ≡ length rows * w
flat-length w [] e = omega arith
flat-length w (row ∷ rows) e = length-append row.cells (flat rows) ∙ omega (arith, e.0, flat-length w rows e.1)

-- the cells of rows that were read are the cells read
pub flat-marked : (w : ℕ) (marks : List ℕ) (cells : List Cell) → flat (rows_of w marks cells) ≡ take (length marks * w) cells
flat-marked w [] cells = let e : 0 * w ≡ 0 = omega arith in rw e
flat-marked w (mark ∷ marks) cells =
    let n = length marks in
    let e : w + n * w ≡ suc n * w = omega arith in
    ap (λ (l : List Cell). take w cells ++ l) (flat-marked w marks (drop w cells)) ∙ sym (take-add w (n * w) cells) ∙ ap (λ (k : ℕ). take k cells) e

pub flat_rows : (w n : ℕ) (cells : List Cell) → flat (bare_rows w n cells) ≡ take (n * w) cells
flat_rows w n cells = flat-marked w (no_marks n) cells ∙ ap (λ (k : ℕ). take (k * w) cells) (no-marks n)
