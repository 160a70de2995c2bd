-- The rows of a table whose labels are tested one after the other: what is left of the first refusal when so many rows are passed, as APPLY, GROUP
-- and NOISE ask. Assumes nothing.
use Prim.Native.Nat.{ℕ, ◌+◌, ◌-◌, ◌*◌, ◌≤◌, ◌<◌}
use mathlib.Core.Path.{◌≡◌, sym, ap, ◌∙◌}
use mathlib.Core.Bool.{true}
use mathlib.Core.List.{List}
use native.Mathlib.Omega.{arith}
use lib.ListN.{length, get_or, take, drop}
use Rattle.cells.specs.promises.Cells.{grid_of}
use Rattle.cells.specs.promises.Labelled.{column_formed, column_formed_at}
use Rattle.cells.specs.promises.Search.{says}
use Rattle.label_words.specs.WellFormed.{well_formed}
use Rattle.live_tables.specs.declared.LiveTable.{LiveTable}
use Rattle.memory.specs.declared.StepError.{StepError}
use Rattle.memory.specs.promises.Stack.{labels_in}
use Rattle.memory.specs.promises.Steps.{error_says, step_says}
use Rattle.plan.specs.Verdict.{Verdict, fine, or_else, first_row}
use Rattle.std.specs.Prelude.{Result, Ok, Err}
use Rattle.cells.proofs.Columns.{Walking, walk_begins, inside, walk-on, read_next, tested-next}
use Rattle.memory.proofs.Finish.{error-stands, goes_on}
use Rattle.memory.proofs.FormedTables.{formed-table, formed-row}

-- the labels of a row of a table, whose first stands at a place
abbrev pub row_at : List ℕ → LiveTable → ℕ → List ℕ
row_at labels table from = take table.columns (drop from labels)

module _ (test : ℕ → List ℕ → Verdict) (labels : List ℕ) (table : LiveTable) where
  -- the first refusal of the rows from one on, whose first label stands at a place
  abbrev pub rest_of : ℕ → ℕ → Verdict
  rest_of row from = first_row test row (grid_of table.columns (table.rows - row) (drop from labels))

  -- the rows before this one refuse nothing, and the labels of the column are well-formed from it on
  pub record RowsPassed (column row from : ℕ) : Type 0 where
    pub walking : Walking (length labels) table.at table.rows table.columns column row from
    pub formed : column_formed column (grid_of table.columns (table.rows - row) (drop from labels)) ≡ true
    pub left : first_row test 0 (labels_in labels table) ≡ rest_of row from

  pub rows-begin : (column : ℕ) → column_formed_at labels table.at table.rows table.columns column ≡ true → RowsPassed column 0 table.at
  rows-begin column e =
      let p = formed-table labels table column e in
      let z : table.rows - 0 ≡ table.rows = omega arith in
      record {
        walking = walk_begins _ table.at table.rows table.columns column p.few-rows p.has-column p.within;
        formed = rw z p.formed;
        left = rw z;
      }

-- a row of the table stands within the labels, and its label in the column
abbrev pub Within : List ℕ → LiveTable → ℕ → ℕ → ℕ → Type 0
Within labels table column row from = (from + column < length labels) × (from + table.columns ≤ length labels) × (row < 256)

module _ {test : ℕ → List ℕ → Verdict} {labels : List ℕ} {table : LiveTable} {column row from : ℕ} (r : RowsPassed test labels table column row from) where
  module _ (h : row < table.rows) where
    pub row_within : Within labels table column row from
    row_within = omega (arith, inside r.walking h, r.walking.has-column, r.walking.few-rows)

    pub row_label : get_or (row_at labels table from) column 0 ≡ get_or labels (from + column) 0
    row_label = read_next labels table.columns column table.rows row from h r.walking.has-column

    pub row-formed : well_formed (get_or labels (from + column) 0) ≡ true
    row-formed = (formed-row labels table.columns column table.rows row from h r.walking.has-column r.formed).0

    -- its own refusal, and those of the rows after it
    pub row-left : first_row test 0 (labels_in labels table) ≡ or_else (test row (row_at labels table from)) (rest_of test labels table (row + 1) (from + table.columns))
    row-left = r.left ∙ tested-next labels table.columns column table.rows row from h r.walking.has-column test

    -- it refuses nothing
    pub row-passed : or_else (test row (row_at labels table from)) (rest_of test labels table (row + 1) (from + table.columns)) ≡ rest_of test labels table (row + 1) (from + table.columns)
        → RowsPassed test labels table column (row + 1) (from + table.columns)
    row-passed e = record {
      walking = walk-on r.walking h;
      formed = (formed-row labels table.columns column table.rows row from h r.walking.has-column r.formed).1;
      left = row-left ∙ e;
    }

  -- all rows are passed
  pub rows_end : table.rows ≤ row → first_row test 0 (labels_in labels table) ≡ fine
  rows_end h = let z : table.rows - row ≡ 0 = omega arith in r.left ∙ rw z

-- a test of the row in code answers its refusal
module _ {test : ℕ → List ℕ → Verdict} {labels : List ℕ} {table : LiveTable} {column row : ℕ} {A : Type 0} (r : RowsPassed test labels table column row (table.at + row * table.columns))
    (h : row < table.rows) {answer : Result A StepError} (e : step_says answer ≡ says (test row (row_at labels table (table.at + row * table.columns)))) where
  -- an error is the first refusal
  pub row-refuses : {wrong : StepError} → answer ≡ Err wrong → error_says wrong ≡ says (first_row test 0 (labels_in labels table))
  row-refuses {wrong} was = error-stands wrong _ (sym (ap step_says was) ∙ e) ∙ ap says (sym (row-left r h))

  pub row-passes : {made : A} → answer ≡ Ok made → RowsPassed test labels table column (row + 1) (table.at + (row + 1) * table.columns)
  row-passes was =
      let next : table.at + (row + 1) * table.columns ≡ table.at + row * table.columns + table.columns = omega arith in
      rw next (row-passed r h (goes_on _ (sym (ap step_says was) ∙ e)))
