-- A live table whose labels in a column were tested. Assumes nothing.
use Prim.Native.Nat.{ℕ, ◌+◌, ◌-◌, ◌*◌, ◌≤◌, ◌<◌}
use mathlib.Core.Path.{◌≡◌}
use mathlib.Core.Bool.{true, ◌&&◌, and-eq-true_iff}
use mathlib.Core.List.{List}
use lib.Dec.{ltb}
use lib.ListN.{length, get_or, drop}
use borrow.Author.Tests.{ltb-true}
use Rattle.cells.specs.promises.Cells.{grid_of}
use Rattle.cells.specs.promises.Labelled.{column_formed, column_formed_at}
use Rattle.cells.specs.promises.Search.{table_within}
use Rattle.live_tables.specs.declared.LiveTable.{LiveTable}
use Rattle.memory.specs.promises.Stack.{labels_in}
use Rattle.label_words.specs.WellFormed.{well_formed}
use Rattle.cells.proofs.Columns.{formed-next}
use Rattle.cells.proofs.Searching.{within-table}

-- a table that lies within the labels, whose labels in a column are well-formed
pub record FormedTable (labels : List ℕ) (table : LiveTable) (column : ℕ) : Type 0 where
  pub few-rows : table.rows ≤ 256
  pub has-column : column < table.columns
  pub within : table.at + table.rows * table.columns ≤ length labels
  pub is : table_within table.at table.rows table.columns (length labels) ≡ true
  pub formed : column_formed column (labels_in labels table) ≡ true

pub formed-table : (labels : List ℕ) (table : LiveTable) (column : ℕ) → column_formed_at labels table.at table.rows table.columns column ≡ true → FormedTable labels table column
formed-table labels table column e =
    let a = (and-eq-true_iff (table_within table.at table.rows table.columns (length labels) && ltb column table.columns) _).0 e in
    let b = (and-eq-true_iff (table_within table.at table.rows table.columns (length labels)) (ltb column table.columns)).0 a.0 in
    let t = within-table table.at table.rows table.columns (length labels) b.0 in
    record { few-rows = t.0; has-column = ltb-true column table.columns b.1; within = t.2; is = b.0; formed = a.1 }

-- the label of a row, whose first stands at a place, and those of the rows after it
pub formed-row : (labels : List ℕ) (columns column rows row place : ℕ) → row < rows → column < columns → column_formed column (grid_of columns (rows - row) (drop place labels)) ≡ true
    → (well_formed (get_or labels (place + column) 0) ≡ true) × (column_formed column (grid_of columns (rows - (row + 1)) (drop (place + columns) labels)) ≡ true)
formed-row labels columns column rows row place h k e = (and-eq-true_iff _ _).0 (rw (formed-next labels columns column rows row place h k) at e)
