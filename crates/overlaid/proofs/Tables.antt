-- One overlay that was let through, composed onto tables of the container, and a rule year's floor. Assumes nothing.
use Prim.Native.Nat.{ℕ, zero, suc, ◌+◌, ◌*◌, ◌<◌}
use mathlib.Core.Path.{◌≡◌, refl, sym, ap, ap₂, ◌∙◌}
use mathlib.Core.Bool.{true, false, not, ◌&&◌, and-eq-true_iff}
use mathlib.Core.List.{List, [], ◌∷◌, map}
use native.Mathlib.Nat.{add-zero, add-suc, suc-add, mul-le-mul_right}
use native.Mathlib.Numerals.{add-one}
use native.Mathlib.Omega.{arith}
use lib.Dec.{eqb}
use lib.ListN.{length, get_or}
use borrow.Author.Tests.{eqb-true, not-false}
use Rattle.accepted.specs.Accepted.{SheetsSound}
use Rattle.floor_laws.proofs.AboutFloor.{earlier-rule, floor-well-formed, floor-above, floor-monotone, floor-clear}
use Rattle.floors.specs.Floors.{floored_cell, floored_table, under_year}
use Rattle.input.specs.Verdict.{accepted}
use Rattle.input.proofs.Laws.{both, not_so}
use Rattle.label_composition.specs.Composition.{composed}
use Rattle.label_floor.specs.Floor.{floored}
use Rattle.label_laws.proofs.Laws.{compose-well-formed, compose-clear, zero-well-formed}
use Rattle.label_laws.proofs.OrderProof.{reflexive, transitive, composed-above}
use Rattle.layout.specs.Layout.{offset_of, part_of}
use Rattle.overlay_check.specs.OverlayCheck.{check_part, check_part_labels, each_part}
use Rattle.overlay_part.specs.Labels.{check_rows, check_labels}
use Rattle.overlay_part.specs.OverlayPart.{label_in, part_fits, overlaid_cells, overlaid}
use Rattle.overlays.specs.Overlays.{overlaid_from}
use Rattle.plan.specs.Secrecy.{Pairwise, none, more}
use Rattle.plan.specs.Sheets.{InputTable}
use Rattle.plan.specs.Table.{Cell, Each, blank, clear}
use Rattle.plan.proofs.Pairs.{same_length, both-map}
use Rattle.strictness.specs.Strictness.{StricterCells}
use Rattle.table_part.specs.TablePart.{columns_of, sheets_of, row_count}
use Rattle.overlaid.proofs.Parts.{Formed, labels_from, rows-formed, rows-sheet}

abbrev pub FormedCell : Cell → Type 0
FormedCell cell = Formed cell.label

-- the same shape and values, under labels that are at least as strict
pub record StricterInputs (a b : InputTable) : Type 0 where
  pub columns : a.columns ≡ b.columns
  pub sheets : a.sheets ≡ b.sheets
  pub rows : a.rows ≡ b.rows
  pub cells : Pairwise StricterCells a.cells b.cells

-- a table with the header of a part of the container, that 13, 15 and 20 have passed
pub record Whole (part : List ℕ) (table : InputTable) : Type 0 where
  pub columns : table.columns ≡ columns_of part
  pub sheets : table.sheets ≡ sheets_of part
  pub rows : table.rows ≡ row_count part
  pub formed : Each FormedCell table.cells
  pub sound : SheetsSound table

-- ---- the cells

over-cells : (part : List ℕ) (cell : ℕ) (cells : List Cell) → Each FormedCell cells → Each Formed (labels_from part cell (length cells))
    → Pairwise StricterCells cells (overlaid_cells part cell cells) × Each FormedCell (overlaid_cells part cell cells)
over-cells part cell [] f l = (none, tt)
over-cells part cell (next ∷ rest) f l =
    let w = compose-well-formed next.label (label_in part cell) f.0 l.0 in
    let r = over-cells part (suc cell) rest f.1 l.1 in
    (more record { value = refl; labels = record { well-formed = f.0; strict = (composed-above next.label (label_in part cell)).0 } } r.0, (w, r.1))

over-at : (part : List ℕ) (cell : ℕ) (cells : List Cell) (i : ℕ) → i < length cells
    → get_or (overlaid_cells part cell cells) i blank ≡ record { value = (get_or cells i blank).value; label = composed (get_or cells i blank).label (label_in part (cell + i)) }
over-at part cell [] i h = absurd (omega arith)
over-at part cell (next ∷ rest) zero h = rw (add-zero cell)
over-at part cell (next ∷ rest) (suc i) h = rw (add-suc cell i ∙ sym (suc-add cell i)) (over-at part (suc cell) rest i (omega arith))

pub over-length : (part : List ℕ) (cell : ℕ) (cells : List Cell) → length (overlaid_cells part cell cells) ≡ length cells
over-length part cell [] = refl
over-length part cell (next ∷ rest) = ap suc (over-length part (suc cell) rest)

-- two clear labels make a clear one
clear_both : {a b : ℕ} → a ≡ 0 → b ≡ 0 → clear (composed a b) ≡ true
clear_both e f = ap clear (ap₂ composed e f ∙ (compose-clear 0 zero-well-formed).0)

-- ---- one table

-- what 21 says of a part, and 22 of its labels
pub record PartPassed (table part : List ℕ) : Type 0 where
  pub columns : columns_of part ≡ columns_of table
  pub sheets : sheets_of part ≡ sheets_of table
  pub rows : row_count part ≡ row_count table
  pub at : ℕ
  pub labels : check_labels part at ≡ accepted

module _ (p : List ℕ) (part : List ℕ) (passes : PartPassed p part) (table : InputTable) (w : Whole p table) where
  -- as many labels as cells
  many : length table.cells ≡ row_count part * columns_of part
  many = w.sound.whole ∙ ap₂ (λ (r c : ℕ). r * c) (w.rows ∙ sym passes.rows) (w.columns ∙ sym passes.columns)

  rows_pass : check_rows part passes.at 0 (row_count part) ≡ accepted
  unfolding check_labels
  rows_pass = passes.labels

  pub labels-formed : Each Formed (labels_from part 0 (length table.cells))
  labels-formed = rw many (rows-formed part passes.at 0 (row_count part) rows_pass)

  pub over-stricter : StricterInputs table (overlaid part table)
  unfolding overlaid
  over-stricter = record { columns = refl; sheets = refl; rows = refl; cells = (over-cells part 0 table.cells w.formed labels-formed).0 }

  sheets-clear : SheetsSound (overlaid part table)
  unfolding overlaid
  sheets-clear = record {
    within = w.sound.within;
    whole = over-length part 0 table.cells ∙ w.sound.whole;
    clear-cells = λ column s row h.
        let named : sheets_of part ≡ suc column = passes.sheets ∙ sym w.sheets ∙ s in
        let c : columns_of part ≡ table.columns = passes.columns ∙ sym w.columns in
        let there : row * table.columns + column < length table.cells = omega (arith, w.sound.whole, s, w.sound.within, mul-le-mul_right table.columns h) in
        let zero-label : label_in part (0 + (row * table.columns + column)) ≡ 0
        = rw (← c) (rows-sheet part passes.at 0 (row_count part) rows_pass column named (omega (arith, c, s, w.sound.within)) row (omega (arith, h, w.rows, passes.rows))) in
        let k = w.sound.clear-cells column s row h in
        rw (over-at part 0 table.cells (row * table.columns + column) there) (clear_both (eqb-true _ 0 k.0) zero-label, k.1);
  }

  pub over-whole : Whole p (overlaid part table)
  unfolding overlaid
  over-whole = record {
    columns = w.columns;
    sheets = w.sheets;
    rows = w.rows;
    formed = (over-cells part 0 table.cells w.formed labels-formed).1;
    sound = sheets-clear;
  }

-- a table is as strict as itself
same-cells : (cells : List Cell) → Each FormedCell cells → Pairwise StricterCells cells cells
same-cells [] f = none
same-cells (cell ∷ rest) f = more record { value = refl; labels = record { well-formed = f.0; strict = reflexive cell.label } } (same-cells rest f.1)

pub itself : {part : List ℕ} {table : InputTable} → Whole part table → StricterInputs table table
itself {table = table} w = record { columns = refl; sheets = refl; rows = refl; cells = same-cells table.cells w.formed }

-- and a table that is stricter than a stricter one is stricter
then-cells : {xs ys zs : List Cell} → Pairwise StricterCells xs ys → Pairwise StricterCells ys zs → Pairwise StricterCells xs zs
then-cells none none = none
then-cells (more {x} {y} c p) (more {y = z} d q) =
    more record {
      value = c.value ∙ d.value;
      labels = record { well-formed = c.labels.well-formed; strict = transitive x.label y.label z.label c.labels.strict d.labels.strict };
    } (then-cells p q)

pub then : {a b c : InputTable} → StricterInputs a b → StricterInputs b c → StricterInputs a c
then s t = record { columns = s.columns ∙ t.columns; sheets = s.sheets ∙ t.sheets; rows = s.rows ∙ t.rows; cells = then-cells s.cells t.cells }

-- ---- all tables, from a part of the container on

abbrev pub Wholes : List ℕ → ℕ → List InputTable → Type 0
Wholes container part [] = Unit
Wholes container part (table ∷ rest) = Whole (part_of container part) table × Wholes container (suc part) rest

module _ (container overlay : List ℕ) where
  pub part-passed : (index : ℕ) → check_part container overlay index ≡ accepted → check_part_labels overlay index ≡ accepted
      → PartPassed (part_of container (suc index)) (part_of overlay index)
  unfolding part_fits
  part-passed index e l =
      let p = part_of overlay index in
      let t = part_of container (suc index) in
      let fit : part_fits t p ≡ true = not-false (part_fits t p) (passed-one index e) in
      let whole = (and-eq-true_iff (eqb (columns_of p) (columns_of t) && eqb (sheets_of p) (sheets_of t) && eqb (row_count p) (row_count t)) _).0 fit in
      let three = (and-eq-true_iff (eqb (columns_of p) (columns_of t) && eqb (sheets_of p) (sheets_of t)) _).0 whole.0 in
      let two = (and-eq-true_iff (eqb (columns_of p) (columns_of t)) _).0 three.0 in
      record { columns = eqb-true _ _ two.0; sheets = eqb-true _ _ two.1; rows = eqb-true _ _ three.1; at = offset_of overlay index; labels = l }
    where
      passed-one : (index : ℕ) → check_part container overlay index ≡ accepted → not (part_fits (part_of container (suc index)) (part_of overlay index)) ≡ false
      passed-one index e = not_so (not (part_fits (part_of container (suc index)) (part_of overlay index))) 21 (offset_of overlay index) (rw (add-one index) at e)

  pub over-tables : (index : ℕ) (tables : List InputTable) → each_part (check_part container overlay) index (length tables) ≡ accepted
      → each_part (check_part_labels overlay) index (length tables) ≡ accepted → Wholes container (suc index) tables
      → Pairwise StricterInputs tables (overlaid_from overlay index tables) × Wholes container (suc index) (overlaid_from overlay index tables)
  over-tables index [] e l w = (none, tt)
  over-tables index (table ∷ rest) e l w =
      let b = both (check_part container overlay index) _ e in
      let c = both (check_part_labels overlay index) _ l in
      let passes = part-passed index b.0 c.0 in
      let r = over-tables (suc index) rest b.1 c.1 w.1 in (
        more (over-stricter (part_of container (suc index)) (part_of overlay index) passes table w.0) r.0,
        (over-whole (part_of container (suc index)) (part_of overlay index) passes table w.0, r.1),
      )

-- ---- the floor

module _ (year : ℕ) where
  floor-cells : (cells : List Cell) → Each FormedCell cells
      → Pairwise StricterCells cells (map (floored_cell year) cells) × Each FormedCell (map (floored_cell year) cells)
  floor-cells [] f = (none, tt)
  floor-cells (next ∷ rest) f =
      let w = floor-well-formed year next.label f.0 in
      let r = floor-cells rest f.1 in
      (more record { value = refl; labels = record { well-formed = f.0; strict = floor-above year next.label } } r.0, (w, r.1))

  -- a clear cell stays, whatever its place
  floor-at : (cells : List Cell) (i : ℕ) → clear (get_or cells i blank).label ≡ true → get_or (map (floored_cell year) cells) i blank ≡ get_or cells i blank
  floor-at [] i c = refl
  floor-at (next ∷ rest) zero c = ap (λ (l : ℕ). record { value = next.value; label = l }) (clear_stays next.label (eqb-true _ 0 c))
    where
      clear_stays : (label : ℕ) → label ≡ 0 → floored year label ≡ label
      clear_stays label e = ap (floored year) e ∙ floor-clear year ∙ sym e
  floor-at (next ∷ rest) (suc i) c = floor-at rest i c

  pub floor-stricter : {part : List ℕ} {table : InputTable} → Whole part table → StricterInputs table (floored_table year table)
  unfolding floored_table
  floor-stricter {table = table} w = record { columns = refl; sheets = refl; rows = refl; cells = (floor-cells table.cells w.formed).0 }

  pub floor-whole : {part : List ℕ} {table : InputTable} → Whole part table → Whole part (floored_table year table)
  unfolding floored_table
  floor-whole {table = table} w = record {
    columns = w.columns;
    sheets = w.sheets;
    rows = w.rows;
    formed = (floor-cells table.cells w.formed).1;
    sound = record {
      within = w.sound.within;
      whole = sym (same_length (floor-cells table.cells w.formed).0) ∙ w.sound.whole;
      clear-cells = λ column s row h.
          let k = w.sound.clear-cells column s row h in
          rw (floor-at table.cells (row * table.columns + column) k.0) k;
    };
  }

  pub floor-tables : (container : List ℕ) (part : ℕ) (tables : List InputTable) → Wholes container part tables
      → Pairwise StricterInputs tables (under_year year tables) × Wholes container part (under_year year tables)
  floor-tables container part [] w = (none, tt)
  floor-tables container part (table ∷ rest) w =
      let r = floor-tables container (suc part) rest w.1 in
      (more (floor-stricter w.0) r.0, (floor-whole w.0, r.1))

  -- stricter tables are stricter under the floor too
  pub floor-both : {xs ys : List InputTable} → Pairwise StricterInputs xs ys → Pairwise StricterInputs (under_year year xs) (under_year year ys)
  unfolding floored_table
  floor-both none = none
  floor-both (more s p) = more record { columns = s.columns; sheets = s.sheets; rows = s.rows; cells = both-map (floored_cell year) (floored_cell year) stricter s.cells } (floor-both p)
    where
      stricter : (a b : Cell) → StricterCells a b → StricterCells (floored_cell year a) (floored_cell year b)
      stricter a b c = record {
        value = c.value;
        labels = record { well-formed = floor-well-formed year a.label c.labels.well-formed; strict = floor-monotone year a.label b.label c.labels.strict };
      }

-- under year 0 every label is read as it is
pub earlier-tables : (tables : List InputTable) → under_year 0 tables ≡ tables
unfolding floored_table
earlier-tables [] = refl
earlier-tables (table ∷ rest) = ap₂ ◌∷◌ (same-table table) (earlier-tables rest)
  where
    same-cells : (cells : List Cell) → map (floored_cell 0) cells ≡ cells
    same-cells [] = refl
    same-cells (cell ∷ rest) = ap₂ ◌∷◌ (ap (λ (l : ℕ). record { value = cell.value; label = l }) (earlier-rule cell.label)) (same-cells rest)

    same-table : (table : InputTable) → floored_table 0 table ≡ table
    same-table table = ap (λ (l : List Cell). record { columns = table.columns; sheets = table.sheets; rows = table.rows; cells = l }) (same-cells table.cells)
