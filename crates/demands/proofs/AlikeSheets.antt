-- Input tables that are alike are alike with the marks of their rows: byte 1 is the same in both, and the cells of a column of sheet
-- numbers are clear, so that no plan locks them. Assumes nothing.
use Prim.Native.Nat.{ℕ, zero, suc, ◌+◌, ◌*◌, ◌≤◌, ◌<◌}
use mathlib.Core.Path.{◌≡◌, refl, ap, ap₂, ◌∙◌}
use mathlib.Core.List.{List, [], ◌∷◌}
use native.Mathlib.Nat.{suc-mul}
use native.Mathlib.Omega.{arith}
use lib.ListN.{get_or, take, drop}
use lib.Seq.{get_or-take, get_or-drop}
use borrow.Author.Tests.{eqb-true}
use Rattle.accepted.specs.Accepted.{SheetsSound}
use Rattle.input.specs.Verdict.{accepted}
use Rattle.overlaid.proofs.Overlaid.{overlays-sheets}
use Rattle.plan.specs.Secrecy.{Pairwise, none, more, AlikeCells, AlikeRows, AlikeMarked, AlikeTables, AlikeSupplies}
use Rattle.plan.specs.Sheets.{InputTable, mark_of, marks_from, marks_of, with_marks, all_with_marks}
use Rattle.plan.specs.Table.{Cell, rows_of, blank, Each}
use Rattle.plan.specs.declared.Step.{Step}
use Rattle.plan.proofs.LockedLaws.{clear-open}
use Rattle.plan.proofs.Pairs.{both-take, both-drop}
use Rattle.value.specs.Pattern.{magnitude_of}
use Rattle.demands.specs.Given.{Given, check_given, plan_given, supply_given}
use Rattle.demands.specs.Secrecy.{AlikeInputs}

-- the cells of the column that byte 1 names, if it names one, are clear in so many rows
abbrev ClearSheets : ℕ → ℕ → ℕ → List Cell → Type 0
ClearSheets sheets columns rows cells =
    (column : ℕ) → sheets ≡ suc column → (row : ℕ) → row < rows → (get_or cells (row * columns + column) blank).label ≡ 0

-- from the second row on
clear-after : (sheets columns rows : ℕ) (cells : List Cell) → ClearSheets sheets columns (suc rows) cells → ClearSheets sheets columns rows (drop columns cells)
clear-after sheets columns rows cells clear column n row h =
    let place : columns + (row * columns + column) ≡ suc row * columns + column = omega (arith, suc-mul row columns) in
    ap (λ (cell : Cell). cell.label) (get_or-drop columns cells (row * columns + column) blank)
    ∙ rw place (clear column n (suc row) (omega arith))

module _ (plan : List Step) where
  abbrev Alike : List Cell → List Cell → Type 0
  Alike = Pairwise (AlikeCells plan)

  -- a clear cell is not locked, and has the same value in both
  same-value : (n : ℕ) {xs ys : List Cell} → Alike xs ys → (get_or xs n blank).label ≡ 0 → (get_or xs n blank).value ≡ (get_or ys n blank).value
  same-value n none e = refl
  same-value zero (more c p) e = c.values (rw e (clear-open plan))
  same-value (suc n) (more c p) e = same-value n p e

  -- the mark of the first row
  mark-same : (sheets columns table row rows : ℕ) → sheets ≤ columns → {xs ys : List Cell} → Alike xs ys → ClearSheets sheets columns (suc rows) xs
      → mark_of sheets table row (take columns xs) ≡ mark_of sheets table row (take columns ys)
  mark-same zero columns table row rows h p clear = refl
  mark-same (suc column) columns table row rows h {xs} p clear =
      let first : 0 * columns + column ≡ column = omega arith in
      let label : (get_or (take columns xs) column blank).label ≡ 0
      = ap (λ (cell : Cell). cell.label) (get_or-take columns xs column blank h) ∙ rw first at (clear column refl 0 (omega arith)) in
      ap magnitude_of (same-value column (both-take columns p) label)

  -- the marks of so many rows
  marks-same : (sheets columns table row rows : ℕ) → sheets ≤ columns → {xs ys : List Cell} → Alike xs ys → ClearSheets sheets columns rows xs
      → marks_from sheets columns table row rows xs ≡ marks_from sheets columns table row rows ys
  marks-same sheets columns table row zero h p clear = refl
  marks-same sheets columns table row (suc rows) h {xs} p clear =
      ap₂ ◌∷◌ (mark-same sheets columns table row rows h p clear)
      (marks-same sheets columns table (suc row) rows h (both-drop columns p) (clear-after sheets columns rows xs clear))

  rows_alike : (columns : ℕ) (marks : List ℕ) {xs ys : List Cell} → Alike xs ys → Pairwise (AlikeRows plan) (rows_of columns marks xs) (rows_of columns marks ys)
  rows_alike columns [] p = none
  rows_alike columns (mark ∷ marks) p = more record { cells = both-take columns p; mark = refl } (rows_alike columns marks (both-drop columns p))

  table-alike : (table : ℕ) {a b : InputTable} → SheetsSound a → AlikeTables plan a b → AlikeMarked plan (with_marks table a) (with_marks table b)
  unfolding with_marks
  table-alike table {a} {b} s t =
      let clear : ClearSheets a.sheets a.columns a.rows a.cells = λ column n row h. eqb-true _ 0 (s.clear-cells column n row h).0 in
      let same = marks-same a.sheets a.columns table 0 a.rows s.within t.cells clear in
      record { columns = t.columns; rows = rw (← t.columns, ← t.sheets, ← t.rows, ← same) (rows_alike a.columns (marks_of table a) t.cells) }

  tables-alike : (table : ℕ) {xs ys : List InputTable} → Each SheetsSound xs → Pairwise (AlikeTables plan) xs ys
      → Pairwise (AlikeMarked plan) (all_with_marks table xs) (all_with_marks table ys)
  tables-alike table s none = none
  tables-alike table s (more t p) = more (table-alike table s.0 t) (tables-alike (suc table) s.1 p)

pub supplies-alike : (year : ℕ) (a b : Given) → check_given a ≡ accepted → AlikeInputs year a b → AlikeSupplies (plan_given a) (supply_given year a) (supply_given year b)
supplies-alike year a b e alike = record { tables = tables-alike (plan_given a) 0 (overlays-sheets year a.container a.overlays e) alike.tables; draws = alike.draws }
