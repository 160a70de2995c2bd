-- The tables of an accepted container with accepted overlays, under a rule year. Assumes nothing.
use Prim.Native.Nat.{ℕ, zero, suc, ◌+◌, ◌-◌}
use mathlib.Core.Path.{◌≡◌, refl, ap, ap₂}
use mathlib.Core.Bool.{Bool, true, false, cond, not, ◌||◌, true≢false}
use mathlib.Core.List.{List, [], ◌∷◌}
use native.Mathlib.Omega.{arith}
use lib.Dec.{eqb, ltb}
use lib.ListN.{length, get_or}
use borrow.Author.Tests.{eqb-true, not-false}
use Rattle.accepted.specs.Accepted.{SheetsSound}
use Rattle.accepted.proofs.AcceptedTables.{tables-counted, tables-formed, tables-sheets}
use Rattle.container.specs.Check.{check_input}
use Rattle.container.specs.Contents.{tables_from, input_tables, tables_of}
use Rattle.directory.specs.Directory.{check_directory}
use Rattle.input.specs.Verdict.{accepted}
use Rattle.input.proofs.Laws.{both, not_so}
use Rattle.layout.specs.Layout.{part_count, part_of}
use Rattle.overlay_check.specs.OverlayCheck.{overlay_count, check_count, check_part, check_part_labels, each_part, check_overlay}
use Rattle.overlays.specs.Overlays.{check_overlays, check_all, overlaid_from, with_overlay, with_overlays}
use Rattle.overlaid.specs.Overlaid.{under, OverlaysStricter, WithoutLessStrict, EarlierLessStrict, OverlaysFormed, OverlaysSheets}
use Rattle.plan.specs.Secrecy.{Pairwise, none, more}
use Rattle.plan.specs.Sheets.{InputTable, mark_of, marks_from, marks_of, with_marks, all_with_marks}
use Rattle.plan.specs.Table.{Cell, Each, blank, rows_of}
use Rattle.plan.proofs.Pairs.{both-take, both-drop, same_length}
use Rattle.strictness.specs.Strictness.{StricterCells, StricterRows, StricterTables}
use Rattle.table_part.specs.TablePart.{table_of}
use Rattle.value.specs.Pattern.{magnitude_of}
use Rattle.overlaid.proofs.Tables.{FormedCell, StricterInputs, Whole, itself, then, Wholes, over-tables, floor-tables, floor-both, earlier-tables}

-- ---- the checks

pub container-accepted : (container : List ℕ) (overlays : List (List ℕ)) → check_all container overlays ≡ accepted → check_input container ≡ accepted
unfolding check_all
container-accepted container overlays e = (both (check_input container) _ e).0

pub overlays-accepted : (container : List ℕ) (overlays : List (List ℕ)) → check_all container overlays ≡ accepted → check_overlays container overlays ≡ accepted
unfolding check_all
overlays-accepted container overlays e = (both (check_input container) _ e).1

-- an overlay that is there and was let through: as many parts as tables, each passed by 21 and by 22
pub record OverlayPassed (container overlay : List ℕ) : Type 0 where
  pub counted : overlay_count overlay + 1 ≡ part_count container
  pub parts : each_part (check_part container overlay) 0 (overlay_count overlay) ≡ accepted
  pub labels : each_part (check_part_labels overlay) 0 (overlay_count overlay) ≡ accepted

or-false : (a b : Bool) → (a || b) ≡ false → (a ≡ false) × (b ≡ false)
or-false true b e = absurd (true≢false e)
or-false false b e = (refl, e)

count-right : (container overlay : List ℕ) → check_count container overlay ≡ accepted → overlay_count overlay + 1 ≡ part_count container
unfolding check_count
count-right container overlay e =
    let counted = eqb (overlay_count overlay + 1) (part_count container) in
    let o = or-false (ltb 65536 (length overlay) || ltb (length overlay) 2 || not counted) _ (not_so _ 21 0 e) in
    eqb-true _ _ (not-false counted (or-false (ltb 65536 (length overlay) || ltb (length overlay) 2) (not counted) o.0).1)

pub overlay-passed : (container overlay : List ℕ) → eqb (length overlay) 0 ≡ false → check_overlay container overlay ≡ accepted → OverlayPassed container overlay
unfolding check_overlay
overlay-passed container overlay some e =
    let c = both (check_count container overlay) _ (rw some at e) in
    let d = both (check_directory 21 (overlay_count overlay) overlay) _ c.1 in
    let p = both (each_part (check_part container overlay) 0 (overlay_count overlay)) _ d.1 in
    record { counted = count-right container overlay c.0; parts = p.0; labels = p.1 }

-- ---- one overlay after the other

all-themselves : (container : List ℕ) (part : ℕ) (tables : List InputTable) → Wholes container part tables → Pairwise StricterInputs tables tables
all-themselves container part [] w = none
all-themselves container part (table ∷ rest) w = more (itself w.0) (all-themselves container (suc part) rest w.1)

all_then : {xs ys zs : List InputTable} → Pairwise StricterInputs xs ys → Pairwise StricterInputs ys zs → Pairwise StricterInputs xs zs
all_then none none = none
all_then (more s p) (more t q) = more (then s t) (all_then p q)

module _ (container : List ℕ) where
  -- tables with the container's headers, one for each part but the plan
  pub record Ready (tables : List InputTable) : Type 0 where
    pub as_many : length tables + 1 ≡ part_count container
    pub wholes : Wholes container 1 tables

  with-one : (overlay : List ℕ) → check_overlay container overlay ≡ accepted → (tables : List InputTable) → Ready tables
      → Pairwise StricterInputs tables (with_overlay overlay tables) × Ready (with_overlay overlay tables)
  with-one overlay e tables r = go (eqb (length overlay) 0) refl
    where
      go : (empty : Bool) → eqb (length overlay) 0 ≡ empty
          → Pairwise StricterInputs tables (cond empty tables (overlaid_from overlay 0 tables)) × Ready (cond empty tables (overlaid_from overlay 0 tables))
      go true f = (all-themselves container 1 tables r.wholes, r)
      go false f =
          let p = overlay-passed container overlay f e in
          let n : overlay_count overlay ≡ length tables = omega (arith, p.counted, r.as_many) in
          let over = over-tables container overlay 0 tables (rw n at p.parts) (rw n at p.labels) r.wholes in
          (over.0, record { as_many = omega (arith, same_length over.0, r.as_many); wholes = over.1 })

  pub with_all : (overlays : List (List ℕ)) → check_overlays container overlays ≡ accepted → (tables : List InputTable) → Ready tables
      → Pairwise StricterInputs tables (with_overlays overlays tables) × Ready (with_overlays overlays tables)
  with_all [] e tables r = (all-themselves container 1 tables r.wholes, r)
  with_all (overlay ∷ rest) e tables r =
      let b = both (check_overlay container overlay) _ e in
      let one = with-one overlay b.0 tables r in
      let later = with_all rest b.1 (with_overlay overlay tables) one.1 in
      (all_then one.0 later.0, later.1)

  wholes-of : (part n : ℕ) → Each (λ table. Each FormedCell table.cells) (tables_from container part n) → Each SheetsSound (tables_from container part n)
      → Wholes container part (tables_from container part n)
  unfolding table_of
  wholes-of part zero f s = tt
  wholes-of part (suc n) f s = (record { columns = refl; sheets = refl; rows = refl; formed = f.0; sound = s.0 }, wholes-of (suc part) n f.1 s.1)

  tables-length : (part n : ℕ) → length (tables_from container part n) ≡ n
  tables-length part zero = refl
  tables-length part (suc n) = ap suc (tables-length (suc part) n)

  pub tables-ready : check_input container ≡ accepted → Ready (input_tables container)
  unfolding input_tables
  tables-ready e = record {
    as_many = omega (arith, tables-length 1 (part_count container - 1), (tables-counted container e).0);
    wholes = wholes-of 1 (part_count container - 1) (tables-formed container e) (tables-sheets container e);
  }

module _ (container : List ℕ) (overlays : List (List ℕ)) (e : check_all container overlays ≡ accepted) where
  pub overlaid-so : Pairwise StricterInputs (input_tables container) (with_overlays overlays (input_tables container)) × Ready container (with_overlays overlays (input_tables container))
  overlaid-so = with_all container overlays (overlays-accepted container overlays e) (input_tables container) (tables-ready container (container-accepted container overlays e))

  floored-so : (year : ℕ) → Pairwise StricterInputs (with_overlays overlays (input_tables container)) (under year container overlays) × Wholes container 1 (under year container overlays)
  floored-so year = floor-tables year container 1 (with_overlays overlays (input_tables container)) overlaid-so.1.wholes

each-whole : (container : List ℕ) (P : InputTable → Type 0) → ((part : List ℕ) (table : InputTable) → Whole part table → P table)
    → (part : ℕ) (tables : List InputTable) → Wholes container part tables → Each P tables
each-whole container P f part [] w = tt
each-whole container P f part (table ∷ rest) w = (f (part_of container part) table w.0, each-whole container P f (suc part) rest w.1)

pub overlays-formed : OverlaysFormed
overlays-formed year container overlays e = each-whole container _ (λ part table w. w.formed) 1 (under year container overlays) (floored-so container overlays e year).1

pub overlays-sheets : OverlaysSheets
overlays-sheets year container overlays e = each-whole container _ (λ part table w. w.sound) 1 (under year container overlays) (floored-so container overlays e year).1

-- ---- the marks

-- marks come from values, and these are the same
mark-same : (sheets table row : ℕ) {xs ys : List Cell} → Pairwise StricterCells xs ys → mark_of sheets table row xs ≡ mark_of sheets table row ys
mark-same zero table row p = refl
mark-same (suc column) table row p = ap magnitude_of (value-at column p)
  where
    value-at : (n : ℕ) {xs ys : List Cell} → Pairwise StricterCells xs ys → (get_or xs n blank).value ≡ (get_or ys n blank).value
    value-at n none = refl
    value-at zero (more c p) = c.value
    value-at (suc n) (more c p) = value-at n p

pub marks-same : (sheets columns table row rows : ℕ) {xs ys : List Cell} → Pairwise StricterCells xs ys
    → marks_from sheets columns table row rows xs ≡ marks_from sheets columns table row rows ys
marks-same sheets columns table row zero p = refl
marks-same sheets columns table row (suc rows) p =
    ap₂ ◌∷◌ (mark-same sheets table row (both-take columns p)) (marks-same sheets columns table (suc row) rows (both-drop columns p))

rows-stricter : (columns : ℕ) (marks : List ℕ) {xs ys : List Cell} → Pairwise StricterCells xs ys
    → Pairwise StricterRows (rows_of columns marks xs) (rows_of columns marks ys)
rows-stricter columns [] p = none
rows-stricter columns (mark ∷ marks) p = more record { cells = both-take columns p; mark = refl } (rows-stricter columns marks (both-drop columns p))

table-stricter : (table : ℕ) {a b : InputTable} → StricterInputs a b → StricterTables (with_marks table a) (with_marks table b)
unfolding with_marks
table-stricter table {a} {b} s =
    let same = marks-same a.sheets a.columns table 0 a.rows s.cells in
    record { columns = s.columns; rows = rw (← s.columns, ← s.sheets, ← s.rows, ← same) (rows-stricter a.columns (marks_of table a) s.cells) }

tables-stricter : (table : ℕ) {xs ys : List InputTable} → Pairwise StricterInputs xs ys → Pairwise StricterTables (all_with_marks table xs) (all_with_marks table ys)
tables-stricter table none = none
tables-stricter table (more s p) = more (table-stricter table s) (tables-stricter (suc table) p)

pub overlays-stricter : OverlaysStricter
unfolding tables_of
overlays-stricter year container overlays e = tables-stricter 0 (all_then (overlaid-so container overlays e).0 (floored-so container overlays e year).0)

pub without-less-strict : WithoutLessStrict
without-less-strict year container overlays e = tables-stricter 0 (floor-both year (overlaid-so container overlays e).0)

pub earlier-less-strict : EarlierLessStrict
earlier-less-strict year container overlays e =
    rw (earlier-tables (with_overlays overlays (input_tables container))) (tables-stricter 0 (floored-so container overlays e year).0)
