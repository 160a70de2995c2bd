-- A row in memory with one cell more. Assumes nothing.
use Prim.Native.Nat.{ℕ, ◌+◌, ◌≤◌, ◌<◌}
use mathlib.Core.Path.{◌≡◌, sym, ap, ap₂, ◌∙◌}
use mathlib.Core.List.{List, [], ◌∷◌, ◌++◌, map}
use native.Mathlib.Omega.{arith}
use lib.IntN.{ℤ, pos}
use lib.ListN.{length, get_or, take, drop, set, length-drop}
use lib.Seq.{length-take-le, get_or-take, get_or-drop}
use Rattle.cells.specs.promises.Cells.{moved, row_from}
use Rattle.cells.specs.promises.Work.{Work, work, cells_in, room}
use Rattle.cells.specs.promises.Written.{Put}
use Rattle.plan.specs.Table.{Cell, blank, cell_at}
use Rattle.extension.specs.promises.Rows.{values_of, made_cell}
use Rattle.cells.proofs.CellLaws.{cell, moved_in, cells-get, cells-length, cells-drop, cells-set, values-front, kept-none, kept_set, kept-moved, written-up}
use Rattle.cells.proofs.Written.{up, one_written}

module _ (w : Work) (from columns : ℕ) (p : from + columns ≤ length w.values) (q : from + columns ≤ length w.labels) where
  -- a cell of the row
  cell-in : (i : ℕ) → i < columns → cell_at i (row_from columns (cells_in w) from) ≡ cell (get_or w.values (from + i) (pos 0)) (get_or w.labels (from + i) 0)
  cell-in i h =
      get_or-take columns (drop from (cells_in w)) i blank h ∙ get_or-drop from (cells_in w) i blank
      ∙ cells-get w (from + i) (pos 0) (omega arith) (omega arith)

  value_in : (i : ℕ) → i < columns → (cell_at i (row_from columns (cells_in w) from)).value ≡ get_or w.values (from + i) (pos 0)
  value_in i h = ap (λ (cell : Cell). cell.value) (cell-in i h)

  label-in : (i : ℕ) → i < columns → (cell_at i (row_from columns (cells_in w) from)).label ≡ get_or w.labels (from + i) 0
  label-in i h = ap (λ (cell : Cell). cell.label) (cell-in i h)

  values-in : values_of (row_from columns (cells_in w) from) ≡ take columns (drop from w.values)
  values-in =
      ap (λ (l : List Cell). map (λ cell. cell.value) (take columns l)) (sym (cells-drop from w.values w.labels))
      ∙ values-front (work (drop from w.values) (drop from w.labels)) columns (simp length-drop (omega arith))

  -- the cell that is made of a column of the row
  pub made-in : (value : ℕ → ℤ → List ℤ → ℤ) (label : ℕ → ℕ) (number column : ℕ) → column < columns
      → made_cell value label column number (row_from columns (cells_in w) from)
      ≡ cell (value number (get_or w.values (from + column) (pos 0)) (take columns (drop from w.values))) (label (get_or w.labels (from + column) 0))
  made-in value label number column k = ap₂ cell (ap₂ (value number) (value_in column k) values-in) (ap label (label-in column k))

  -- the row's cells are copied, and the new cell is stored behind them
  pub row-made : (to : ℕ) (value : ℤ) (label : ℕ) (new : Cell) → from + columns ≤ to → to + columns < room → room ≤ length w.values → room ≤ length w.labels
      → new ≡ cell value label
      → Put to ((row_from columns (cells_in w) from).cells ++ (new ∷ [])) w
      (work (set (moved from to columns w.values) (to + columns) value) (set (moved from to columns w.labels) (to + columns) label))
  row-made to value label new g h vr lr e =
      let memory = cells_in w in
      let long = cells-length w room vr lr in
      let copied = written-up w from to columns g (omega arith) (omega arith) in
      let done : length (take columns (drop from memory)) ≡ columns = length-take-le columns (drop from memory) (simp length-drop (omega (arith, cells-length w (from + columns) p q))) in
      record {
        written = rw (e, cells-set (moved_in from to columns w) (to + columns) value label) (rw done at (one_written copied (cell value label) (omega (arith, done, long))));
        kept = kept_set {w = moved_in from to columns w} (to + columns) value label h (kept-moved (up g (omega arith)) (up g (omega arith)) (omega arith) (kept-none w));
      }
