-- The tables of an accepted container. Assumes nothing.
use Prim.Native.Nat.{ℕ, zero, suc, ◌+◌, ◌-◌, ◌*◌, ◌≤◌, ◌<◌}
use mathlib.Core.Path.{◌≡◌, refl, sym, ap, ◌∙◌}
use mathlib.Core.Bool.{true, not, ◌&&◌, and-eq-true_iff}
use mathlib.Core.List.{List, [], ◌∷◌}
use native.Mathlib.Nat.{suc-mul, zero-add, add-zero, add-suc, suc-add, add_comm, mul-le-mul_right}
use native.Mathlib.Omega.{arith}
use lib.Dec.{leb}
use lib.ListN.{length, get_or, drop, length-drop}
use lib.Seq.{length-take-le}
use borrow.Author.Tests.{leb-true, ne_eqb, not-true, not-false}
use Rattle.accepted.specs.Accepted.{TablesCounted, TablesFound, HeaderMeans, Sound, TablesSound, TablesFormed, SheetsSound, TablesSheets}
use Rattle.container.specs.Check.{accepted, check_tables, check_input}
use Rattle.container.specs.Contents.{tables_from, input_tables, tables_of}
use Rattle.container.proofs.Passed.{Passed, passed as all-passed}
use Rattle.label_words.specs.WellFormed.{smallest_minimum, well_formed}
use Rattle.layout.specs.Layout.{part_count, offset_of, part_of}
use Rattle.plan.specs.Sense.{Small}
use Rattle.plan.specs.Sheets.{marks_from, marks_of, with_marks, all_with_marks}
use Rattle.plan.specs.Table.{Cell, Table, no_table, rows_of, Each, Shaped}
use Rattle.table_check.specs.Checks.{check_cells, check_table}
use Rattle.table_part.specs.TablePart.{columns_of, sheets_of, row_count, cell_count, header_fits, value_place, label_place, value_of, label_of, cells_from, table_of}
use Rattle.value.specs.Range.{in_range}
use Rattle.input.proofs.Laws.{both, not_so, passed}
use Rattle.plan.proofs.SenseEach.{each_take, each-drop, each_weaken}
use Rattle.layout_check.proofs.Sized.{sized}
use Rattle.table_check.proofs.Header.{header}
use Rattle.sheet_check.specs.Sheets.{sheet_fits, all_fit, sheets_fit}
use Rattle.table_part.proofs.Laws.{cells-length, cell-there}
use Rattle.value.specs.Pattern.{negative}

pub checks : (bytes : List ℕ) → check_input bytes ≡ accepted → Passed smallest_minimum bytes
unfolding check_input
checks bytes e = all-passed smallest_minimum bytes e

-- ---- a table part

abbrev SoundCell : Cell → Type 0
SoundCell cell = (in_range cell.value ≡ true) × (well_formed cell.label ≡ true)

sound-cells : (part : List ℕ) (at cell more : ℕ) → check_cells smallest_minimum part at cell more ≡ accepted → Each SoundCell (cells_from part cell more)
unfolding well_formed
sound-cells part at cell zero e = tt
sound-cells part at cell (suc more) e =
    let v = passed (not (in_range (value_of part cell))) 14 (at + value_place cell) _ e in
    let l = passed (not (well_formed (label_of part cell))) 15 (at + label_place cell) _ v.1 in
    ((not-false _ v.0, not-false _ l.0), sound-cells part at (suc cell) more l.1)

rows-length : (columns : ℕ) (marks : List ℕ) (cells : List Cell) → length (rows_of columns marks cells) ≡ length marks
rows-length columns [] cells = refl
rows-length columns (mark ∷ marks) cells = ap suc (rows-length columns marks (drop columns cells))

rows-shaped : (columns : ℕ) (marks : List ℕ) (cells : List Cell) → length cells ≡ length marks * columns → Each (λ row. length row.cells ≡ columns) (rows_of columns marks cells)
rows-shaped columns [] cells e = tt
rows-shaped columns (mark ∷ marks) cells e =
    let s = suc-mul (length marks) columns in
    (length-take-le columns cells (omega arith), rows-shaped columns marks (drop columns cells) (length-drop columns cells ∙ omega arith))

-- what holds of each cell of a table holds of each cell of its rows
pub rows-each : (P : Cell → Type 0) (columns : ℕ) (marks : List ℕ) (cells : List Cell) → Each P cells → Each (λ row. Each P row.cells) (rows_of columns marks cells)
rows-each P columns [] cells e = tt
rows-each P columns (mark ∷ marks) cells e = (each_take P columns cells e, rows-each P columns marks (drop columns cells) (each-drop P columns cells e))

-- as many marks as rows
pub marks-length : (sheets columns table row more : ℕ) (cells : List Cell) → length (marks_from sheets columns table row more cells) ≡ more
marks-length sheets columns table row zero cells = refl
marks-length sheets columns table row (suc more) cells = ap suc (marks-length sheets columns table (suc row) more (drop columns cells))

module _ (part : List ℕ) (table : ℕ) where
  -- the marks of a table's rows
  abbrev marks_at : List ℕ
  marks_at = marks_of table (table_of part)

  marks-counted : length marks_at ≡ row_count part
  unfolding table_of
  marks-counted = marks-length (sheets_of part) (columns_of part) table 0 (row_count part) (cells_from part 0 (cell_count part))

  rows-counted : length (with_marks table (table_of part)).rows ≡ row_count part
  unfolding with_marks table_of
  rows-counted = rows-length (columns_of part) marks_at (cells_from part 0 (cell_count part)) ∙ marks-counted

pub header-means : HeaderMeans
header-means part t = let h = header part t in (h.some, h.few, h.small, h.whole, rows-counted part)

-- what holds of each table
pub record Good (table : Table) : Type 0 where
  pub shaped : Shaped table
  pub small : Small table
  pub some : 1 ≤ table.columns
  pub few : table.columns ≤ 8
  pub sound : Sound table

module _ (part : List ℕ) (at : ℕ) (e : check_table smallest_minimum part at ≡ accepted) where
  pub header-fits : header_fits part ≡ true
  unfolding check_table
  header-fits = not-false _ (passed (not (header_fits part)) 13 at _ e).0

  -- 14 and 15, and then 20
  cells-pass : (check_cells smallest_minimum part at 0 (cell_count part) ≡ accepted) × (sheets_fit part ≡ true)
  unfolding check_table
  cells-pass =
      let b = both (check_cells smallest_minimum part at 0 (cell_count part)) _ (passed (not (header_fits part)) 13 at _ e).1 in
      (b.0, not-false _ (not_so (not (sheets_fit part)) 20 at b.1))

  good : (table : ℕ) → Good (with_marks table (table_of part))
  unfolding with_marks table_of
  good table =
      let h = header part header-fits in
      let cells = cells_from part 0 (cell_count part) in
      let whole : length cells ≡ length (marks_at part table) * columns_of part = cells-length part 0 (cell_count part) ∙ ap (λ (n : ℕ). n * columns_of part) (sym (marks-counted part table)) in
      record {
        shaped = rows-shaped (columns_of part) (marks_at part table) cells whole;
        small = rw (rows-counted part table) h.small;
        some = h.some;
        few = h.few;
        sound = rows-each SoundCell (columns_of part) (marks_at part table) cells (sound-cells part at 0 (cell_count part) cells-pass.0);
      }

  -- the cells of the sheet column, one row after the other
  sheet-cells : (cell more : ℕ) → all_fit part cell more ≡ true → (row : ℕ) → row < more → sheet_fits part (cell + row * columns_of part) ≡ true
  sheet-cells cell zero f row h = absurd (omega arith)
  sheet-cells cell (suc more) f zero h = let z : cell + 0 * columns_of part ≡ cell = omega arith in rw z ((and-eq-true_iff (sheet_fits part cell) _).0 f).0
  sheet-cells cell (suc more) f (suc row) h =
      let n : cell + suc row * columns_of part ≡ cell + columns_of part + row * columns_of part = omega (arith, suc-mul row (columns_of part)) in
      rw n (sheet-cells (cell + columns_of part) more ((and-eq-true_iff (sheet_fits part cell) _).0 f).1 row (omega arith))

  -- the column that byte 1 names
  named : (column : ℕ) → sheets_of part ≡ suc column → (sheets_of part ≤ columns_of part) × (all_fit part column (row_count part) ≡ true)
  unfolding sheets_fit
  named column n =
      let less : suc column - 1 ≡ column = omega arith in
      let f : (leb (suc column) (columns_of part) && all_fit part column (row_count part)) ≡ true = rw (n, ne_eqb (suc column) 0 (λ e. omega (arith, e)), less) at cells-pass.1 in
      let two = (and-eq-true_iff (leb (suc column) (columns_of part)) _).0 f in
      (rw n (leb-true _ _ two.0), two.1)

  within-columns : (n : ℕ) → sheets_of part ≡ n → sheets_of part ≤ columns_of part
  within-columns zero n = omega arith
  within-columns (suc column) n = (named column n).0

  pub sheets-sound : SheetsSound (table_of part)
  unfolding table_of
  sheets-sound = record {
    within = within-columns (sheets_of part) refl;
    whole = cells-length part 0 (cell_count part);
    clear-cells = λ column n row h.
        let there : row * columns_of part + column < cell_count part = omega (arith, (named column n).0, n, mul-le-mul_right (columns_of part) h) in
        let place : row * columns_of part + column ≡ column + row * columns_of part = omega arith in
        let two = (and-eq-true_iff (not (negative (value_of part (column + row * columns_of part)))) _).0 (sheet-cells column (row_count part) (named column n).1 row h) in
        rw (cell-there part 0 (cell_count part) (row * columns_of part + column) there, zero-add (row * columns_of part + column), place) (two.1, not-true _ two.0);
  }

-- ---- all of them

module _ (bytes : List ℕ) where
  tables-good : (table part more : ℕ) → check_tables smallest_minimum bytes part more ≡ accepted → Each Good (all_with_marks table (tables_from bytes part more))
  tables-good table part zero e = tt
  tables-good table part (suc more) e =
      let b = both (check_table smallest_minimum (part_of bytes part) (offset_of bytes part)) _ e in
      (good (part_of bytes part) (offset_of bytes part) b.0 table, tables-good (suc table) (suc part) more b.1)

  inputs-sound : (part more : ℕ) → check_tables smallest_minimum bytes part more ≡ accepted → Each SheetsSound (tables_from bytes part more)
  inputs-sound part zero e = tt
  inputs-sound part (suc more) e =
      let b = both (check_table smallest_minimum (part_of bytes part) (offset_of bytes part)) _ e in
      (sheets-sound (part_of bytes part) (offset_of bytes part) b.0, inputs-sound (suc part) more b.1)

  cells-formed : (part more : ℕ) → check_tables smallest_minimum bytes part more ≡ accepted
      → Each (λ table. Each (λ cell. well_formed cell.label ≡ true) table.cells) (tables_from bytes part more)
  unfolding table_of
  cells-formed part zero e = tt
  cells-formed part (suc more) e =
      let b = both (check_table smallest_minimum (part_of bytes part) (offset_of bytes part)) _ e in
      let cells = cells_from (part_of bytes part) 0 (cell_count (part_of bytes part)) in
      (each_weaken SoundCell _ (λ _ s. s.1) cells (sound-cells (part_of bytes part) (offset_of bytes part) 0 (cell_count (part_of bytes part)) (cells-pass (part_of bytes part) (offset_of bytes part) b.0).0), cells-formed (suc part) more b.1)

  tables-length : (table part more : ℕ) → length (all_with_marks table (tables_from bytes part more)) ≡ more
  tables-length table part zero = refl
  tables-length table part (suc more) = ap suc (tables-length (suc table) (suc part) more)

  table_at : (table part more t : ℕ) → check_tables smallest_minimum bytes part more ≡ accepted → t < more
      → (header_fits (part_of bytes (part + t)) ≡ true) × (sheets_of (part_of bytes (part + t)) ≤ columns_of (part_of bytes (part + t)))
      × (get_or (all_with_marks table (tables_from bytes part more)) t no_table ≡ with_marks (table + t) (table_of (part_of bytes (part + t))))
  table_at table part zero t e h = absurd (omega arith)
  table_at table part (suc more) zero e h =
      let b = (both (check_table smallest_minimum (part_of bytes part) (offset_of bytes part)) _ e).0 in
      rw (add-zero part, add-zero table) (header-fits (part_of bytes part) (offset_of bytes part) b, within-columns (part_of bytes part) (offset_of bytes part) b (sheets_of (part_of bytes part)) refl, refl)
  table_at table part (suc more) (suc t) e h =
      rw (add-suc part t ∙ sym (suc-add part t), add-suc table t ∙ sym (suc-add table t))
      (table_at (suc table) (suc part) more t (both (check_table smallest_minimum (part_of bytes part) (offset_of bytes part)) _ e).1 (omega arith))

pub tables-counted : TablesCounted
unfolding tables_of input_tables
tables-counted bytes e =
    let s = sized bytes (checks bytes e).container in
    (s.least, s.most, tables-length bytes 0 1 (part_count bytes - 1))

pub tables-found : TablesFound
unfolding tables_of input_tables
tables-found bytes e t h = rw (add_comm t 1) (rw (zero-add t) at (table_at bytes 0 1 (part_count bytes - 1) t (checks bytes e).tables h))

pub tables-formed : TablesFormed
unfolding input_tables
tables-formed bytes e = cells-formed bytes 1 (part_count bytes - 1) (checks bytes e).tables

pub tables-sheets : TablesSheets
unfolding input_tables
tables-sheets bytes e = inputs-sound bytes 1 (part_count bytes - 1) (checks bytes e).tables

pub tables-sound : TablesSound
unfolding tables_of input_tables
tables-sound bytes e =
    let g = tables-good bytes 0 1 (part_count bytes - 1) (checks bytes e).tables in
    let all = all_with_marks 0 (tables_from bytes 1 (part_count bytes - 1)) in (
      each_weaken Good Shaped (λ _ x. x.shaped) all g,
      each_weaken Good Small (λ _ x. x.small) all g,
      each_weaken Good _ (λ _ x. (x.some, x.few)) all g,
      each_weaken Good Sound (λ _ x. x.sound) all g,
    )
