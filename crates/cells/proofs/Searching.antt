-- A search row by row: what is left of it from a row and a column on. Assumes nothing.
use Prim.Native.Nat.{ℕ, suc, ◌+◌, ◌-◌, ◌*◌, ◌≤◌, ◌<◌}
use mathlib.Core.Path.{◌≡◌, refl}
use mathlib.Core.Bool.{Bool, true, not, ◌&&◌, and-eq-true_iff}
use mathlib.Core.List.{List}
use native.Mathlib.Nat.{add-zero, mul-le-mul_right}
use native.Mathlib.Numerals.{add-one}
use native.Mathlib.Omega.{arith}
use lib.Dec.{leb}
use lib.ListN.{length, get_or, take, drop}
use lib.Seq.{drop-cons, drop-drop}
use borrow.Author.Tests.{leb-true}
use Rattle.cells.specs.promises.Cells.{within, grid_of}
use Rattle.cells.specs.promises.Search.{table_within}
use Rattle.plan.specs.Table.{clear}
use Rattle.plan.specs.Verdict.{Verdict, fine, refused, or_else, refuse_if, first_not_clear, not_clear}
use Rattle.cells.proofs.CellLaws.{within-le}

pub or_assoc : (u v w : Verdict) → or_else (or_else u v) w ≡ or_else u (or_else v w)
or_assoc fine v w = refl
or_assoc (refused number row column) v w = refl

module _ (wanted : ℕ → Bool) (labels : List ℕ) (rows columns : ℕ) where
  -- the rows from one on, whose first label stands at `place`
  abbrev pub rows_left : ℕ → ℕ → ℕ → ℕ → Verdict
  rows_left number first row place = not_clear wanted number (first + row) (grid_of columns (rows - row) (drop place labels))

  -- the rest of a row from a column on, whose label stands at `place`, and the rows after it
  abbrev pub cells_left : ℕ → ℕ → ℕ → ℕ → ℕ → Verdict
  cells_left number first row column place =
      or_else (first_not_clear wanted number column (first + row) (take (columns - column) (drop place labels)))
      (rows_left number first (row + 1) (place + (columns - column)))

  pub row-begins : (number first row place : ℕ) → row < rows → rows_left number first row place ≡ cells_left number first row 0 place
  row-begins number first row place h =
      let e : rows - row ≡ suc (rows - (row + 1)) = omega arith in
      let f : suc (first + row) ≡ first + (row + 1) = omega arith in
      let z : columns - 0 ≡ columns = omega arith in
      rw (e, z, drop-drop columns place labels, f)

  pub row_ends : (number first row column place : ℕ) → column ≡ columns → cells_left number first row column place ≡ rows_left number first (row + 1) place
  row_ends number first row column place e = let z : columns - column ≡ 0 = omega arith in rw (z, add-zero)

  -- one cell: it is found, or the search goes on
  pub cell-next : (number first row column place : ℕ) → column < columns → place < length labels
      → cells_left number first row column place
      ≡ or_else (refuse_if (wanted column && not (clear (get_or labels place 0))) number (first + row) column) (cells_left number first row (column + 1) (place + 1))
  cell-next number first row column place h l =
      let e : columns - column ≡ suc (columns - (column + 1)) = omega arith in
      let p : place + suc (columns - (column + 1)) ≡ place + 1 + (columns - (column + 1)) = omega arith in
      rw (e, p, drop-cons labels place 0, ← add-one column, ← add-one place)
      (or_assoc (refuse_if (wanted column && not (clear (get_or labels place 0))) number (first + row) column) _ _)

  pub search-begins : (number first at : ℕ) → not_clear wanted number first (grid_of columns rows (drop at labels)) ≡ rows_left number first 0 at
  search-begins number first at = let z : rows - 0 ≡ rows = omega arith in rw (add-zero, z)

  pub search-ends : (number first row place : ℕ) → rows ≤ row → rows_left number first row place ≡ fine
  search-ends number first row place h = let z : rows - row ≡ 0 = omega arith in rw z

-- a cell of a table stands among the table's cells
pub cell-inside : (rows columns row column : ℕ) → row < rows → column < columns → row * columns + column < rows * columns
cell-inside rows columns row column h k = omega (arith, mul-le-mul_right columns h)

-- what the test of a table says
pub within-table : (at rows columns n : ℕ) → table_within at rows columns n ≡ true → (rows ≤ 256) × (columns ≤ 8) × (at + rows * columns ≤ n)
within-table at rows columns n e =
    let h = (and-eq-true_iff (leb rows 256 && leb columns 8) (within at (rows * columns) n)).0 e in
    let k = (and-eq-true_iff (leb rows 256) (leb columns 8)).0 h.0 in
    (leb-true rows 256 k.0, leb-true columns 8 k.1, within-le at (rows * columns) n h.1)
