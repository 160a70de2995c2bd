-- The values of a table in memory. Assumes nothing.
use Prim.Native.Nat.{ℕ, suc, ◌+◌, ◌*◌, ◌≤◌}
use mathlib.Core.Path.{◌≡◌, refl, sym, ap, ap₂, ◌∙◌}
use mathlib.Core.Bool.{true, not}
use mathlib.Core.List.{List, [], ◌∷◌, map}
use native.Mathlib.Omega.{arith}
use lib.IntN.{ℤ}
use lib.ListN.{length, take, drop, length-drop}
use borrow.Author.Tests.{le-leb}
use Rattle.cells.specs.promises.Cells.{cells_of}
use Rattle.cells.specs.promises.Search.{table_within}
use Rattle.cells.specs.promises.Work.{Work, work, cells_in}
use Rattle.plan.specs.Evaluate.{over_in, first_over}
use Rattle.plan.specs.Table.{Cell, rows_of, flat}
use Rattle.plan.specs.Verdict.{or_else, refuse_if}
use Rattle.table_values.specs.promises.Over.{over_from, first_over_in}
use Rattle.value.specs.Range.{in_range}
use Rattle.cells.proofs.CellLaws.{cells-drop, values-front, le-within}
use Rattle.cells.proofs.RowReads.{flat-marked}

-- ---- cells and their values

over-cells : (row column : ℕ) (cells : List Cell) → over_in row column cells ≡ over_from row column (map (λ cell. cell.value) cells)
over-cells row column [] = refl
over-cells row column (cell ∷ rest) = ap (or_else (refuse_if (not (in_range cell.value)) 36 row column)) (over-cells row (suc column) rest)

over-rows : (first columns : ℕ) (marks : List ℕ) (vs : List ℤ) (ls : List ℕ) → length marks * columns ≤ length ls
    → first_over first (rows_of columns marks (cells_of vs ls)) ≡ first_over_in first columns (length marks) vs
over-rows first columns [] vs ls h = refl
over-rows first columns (mark ∷ marks) vs ls h =
    ap₂ or_else (over-cells first 0 (take columns (cells_of vs ls)) ∙ ap (over_from first 0) (values-front (work vs ls) columns (omega arith)))
    (ap (λ (l : List Cell). first_over (suc first) (rows_of columns marks l)) (sym (cells-drop columns vs ls))
    ∙ over-rows (suc first) columns marks (drop columns vs) (drop columns ls) (simp length-drop (omega arith)))

-- ---- a table in memory

pub table-fits : (at rows columns n : ℕ) → rows ≤ 256 → columns ≤ 8 → at + rows * columns ≤ n → table_within at rows columns n ≡ true
table-fits at rows columns n r c h = rw (le-leb rows 256 r, le-leb columns 8 c, le-within at (rows * columns) n h)

-- whatever the marks of its rows
module _ (w : Work) (at columns rows : ℕ) (marks : List ℕ) (as_many : length marks ≡ rows) where
  -- its first OVER cell
  pub table-over : (first : ℕ) → at + rows * columns ≤ length w.labels
      → first_over first (rows_of columns marks (drop at (cells_in w))) ≡ first_over_in first columns rows (drop at w.values)
  table-over first h =
      rw (← cells-drop at w.values w.labels, ← as_many)
      (over-rows first columns marks (drop at w.values) (drop at w.labels) (rw as_many (simp length-drop (omega arith))))

  -- its values, row by row
  pub table-values : at + rows * columns ≤ length w.labels
      → map (λ cell. cell.value) (flat (rows_of columns marks (drop at (cells_in w)))) ≡ take (rows * columns) (drop at w.values)
  table-values h =
      rw (flat-marked columns marks (drop at (cells_in w)), as_many, ← cells-drop at w.values w.labels)
      (values-front (work (drop at w.values) (drop at w.labels)) (rows * columns) (simp length-drop (omega arith)))
