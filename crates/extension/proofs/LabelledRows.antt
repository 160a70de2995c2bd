-- The rows of a table in memory whose labels in a column are well-formed. Assumes nothing.
use Prim.Native.Nat.{ℕ}
use mathlib.Core.Path.{◌≡◌, sym, ap, ◌∙◌}
use mathlib.Core.Bool.{true, and-eq-true_iff}
use mathlib.Core.List.{List, [], ◌∷◌, map}
use native.Mathlib.Omega.{arith}
use lib.ListN.{length, get_or, drop, length-drop}
use Rattle.cells.specs.promises.Cells.{no_marks, grid_of, Wide}
use Rattle.cells.specs.promises.Labelled.{column_formed}
use Rattle.cells.specs.promises.Work.{Work}
use Rattle.label_words.specs.WellFormed.{well_formed}
use Rattle.live_tables.specs.declared.LiveTable.{LiveTable}
use Rattle.memory.specs.promises.Stack.{rows_in, labels_in, Inside}
use Rattle.plan.specs.Table.{Cell, Row, Each, cell_at, labels_of, rows_of}
use Rattle.cells.proofs.CellLaws.{cells-drop}
use Rattle.cells.proofs.LabelledTables.{label_of}
use Rattle.cells.proofs.Rows.{marked-grid, no-marks, rows-wide}
use Rattle.memory.proofs.LiveTables.{rows-room}

-- a row of so many columns, whose label in one is well-formed
pub record Formed (columns column : ℕ) (row : Row) : Type 0 where
  pub wide : Wide columns row
  pub label : well_formed (cell_at column row).label ≡ true

each-formed : (columns column : ℕ) (rows : List Row) → Each (Wide columns) rows → column_formed column (map labels_of rows) ≡ true → Each (Formed columns column) rows
each-formed columns column [] w e = tt
each-formed columns column (row ∷ rest) w e =
    let both = (and-eq-true_iff (well_formed (get_or (labels_of row) column 0)) (column_formed column (map labels_of rest))).0 e in
    (record { wide = w.0; label = ap well_formed (sym (label_of column row)) ∙ both.0 }, each-formed columns column rest w.1 both.1)

module _ (w : Work) (table : LiveTable) (i : Inside table (length w.values) (length w.labels)) where
  grid : map labels_of (rows_in w table) ≡ labels_in w.labels table
  grid =
      let marks = no_marks table.rows in
      let many : length marks ≡ table.rows = no-marks table.rows in
      ap (λ (cells : List Cell). map labels_of (rows_of table.columns marks cells)) (sym (cells-drop table.at w.values w.labels))
      ∙ marked-grid table.columns marks (drop table.at w.values) (drop table.at w.labels) (rw many (simp length-drop (omega (arith, i.below, i.values-room))))
      ∙ ap (λ (n : ℕ). grid_of table.columns n (drop table.at w.labels)) many

  pub rows-formed : (column : ℕ) → column_formed column (labels_in w.labels table) ≡ true → Each (Formed table.columns column) (rows_in w table)
  rows-formed column e =
      each-formed table.columns column (rows_in w table) (rows-wide table.columns table.rows _ (rows-room w i)) (ap (column_formed column) grid ∙ e)
