-- GROUP in work memory and its meaning. Assumes nothing.
use Prim.Native.Nat.{ℕ, suc, ◌+◌, ◌≤◌, ◌<◌}
use mathlib.Core.Path.{◌≡◌, refl, sym, ap, ◌∙◌}
use mathlib.Core.Bool.{Bool, true, false, cond, and-eq-true_iff}
use mathlib.Core.List.{List, [], ◌∷◌, map}
use native.Mathlib.Omega.{arith}
use lib.Dec.{leb, ltb}
use lib.ListN.{length, get_or}
use Prim.Native.Nat.{◌^◌}
use borrow.Author.Tests.{leb-true, ltb-true, lt-ltb}
use Rattle.cells.specs.promises.Labelled.{column_formed, column_formed_at}
use Rattle.cells.specs.promises.Search.{says, unfit}
use Rattle.cells.specs.promises.Work.{Memory, cells_in, mark_room}
use Rattle.group.specs.promises.Fits.{group_fits}
use Rattle.group.specs.promises.Made.{Source, Marks, group_rows, Replaced}
use Rattle.group.specs.promises.Members.{grouping_of, Allowed, grouped_rows}
use Rattle.group_refusal.specs.promises.Refusals.{forbids_at, group_says}
use Rattle.group.specs.declared.Grouping.{Grouping}
use Rattle.label_discharge.specs.Discharge.{forbids_a}
use Rattle.label_words.specs.WellFormed.{well_formed}
use Rattle.plan.specs.Masks.{in_mask}
use Rattle.live_tables.specs.declared.LiveTable.{LiveTable}
use Rattle.live_tables.specs.declared.Stack.{Stack}
use Rattle.std.specs.Prelude.{Ok, Err}
use Rattle.memory.specs.declared.StepError.{StepError}
use Rattle.memory.specs.promises.Stack.{Ready, stack_in, widths_to, with_table, live_table, marked_in, labels_in, Inside, MarksInside}
use Rattle.memory.specs.promises.Steps.{error_says, verdict, fits, fits_in, DoneWhere}
use Rattle.plan.specs.Group.{check_group, grouped}
use Rattle.plan.specs.Keep.{kept_count}
use Rattle.plan.specs.Steps.{check, make, too_many}
use Rattle.plan.specs.Supply.{Supply}
use Rattle.plan.specs.Table.{Row, Table, labels_of, grid, top, Each}
use Rattle.plan.specs.Verdict.{Verdict, fine, refused, or_else, refuse_if, first_row, not_clear}
use Rattle.plan.specs.Widths.{enough_tables, columns_exist, made_columns}
use Rattle.plan.specs.declared.Aggregate.{Aggregate}
use Rattle.plan.specs.declared.Step.{Step}
use Rattle.plan.specs.declared.Step.TheVariants.{Group}
use Rattle.cells.proofs.LabelledTables.{label_of}
use Rattle.cells.proofs.Rows.{bare}
use Rattle.memory.proofs.Finish.{answered-done, made-done, fine-parts, or_nothing}
use Rattle.memory.proofs.FormedTables.{formed-table}
use Rattle.memory.proofs.LiveTables.{fits-parts, Stands, stands, inside, at-is, marks-place, marks-inside, bare-is, table-within, grid-is, stack_top, top-width}

-- ---- labels that an aggregate may be made of

first_fine : (u v : Verdict) → or_else u v ≡ fine → (u ≡ fine) × (v ≡ fine)
first_fine fine v e = (refl, e)
first_fine (refused number row column) v e = (cc, cc)

if-fine : (fact : Bool) (number row column : ℕ) → refuse_if fact number row column ≡ fine → fact ≡ false
if-fine true number row column e = cc
if-fine false number row column e = refl

allowed-rows : (column first : ℕ) (rows : List Row) → column_formed column (map labels_of rows) ≡ true → first_row (forbids_at column) first (map labels_of rows) ≡ fine → Each (Allowed column) rows
allowed-rows column first [] e f = tt
allowed-rows column first (row ∷ rest) e f =
    let word = get_or (labels_of row) column 0 in
    let t = (and-eq-true_iff (well_formed word) (column_formed column (map labels_of rest))).0 e in
    let u = first_fine (refuse_if (forbids_a word) 32 first column) (first_row (forbids_at column) (suc first) (map labels_of rest)) f in
    ((rw (label_of column row) at t.0, rw (label_of column row) at (if-fine (forbids_a word) 32 first column u.0)), allowed-rows column (suc first) rest t.1 u.1)

labels-bare : (rows : List Row) → map labels_of (map bare rows) ≡ map labels_of rows
labels-bare [] = refl
labels-bare (row ∷ rows) = ap (λ (l : List (List ℕ)). labels_of row ∷ l) (labels-bare rows)

-- what a GROUP that fits finds
pub record GroupFits (keys column values labels : ℕ) (stack : Stack) (table : LiveTable) (width : ℕ) : Type 0 where
  pub is-ready : Ready values labels stack
  pub here : Stands stack 0 table
  pub inside_is : Inside table values labels
  pub below : column < table.columns
  pub width_is : width ≡ kept_count keys table.columns + 1
  pub narrow : width ≤ 8

module _ (keys : ℕ) (aggregate : Aggregate) (column : ℕ) where
  abbrev step : Step
  step = Group keys aggregate column

  pub group-parts : (tables : List ℕ) (values labels : ℕ) (stack : Stack) (table : LiveTable) (width : ℕ) → table ≡ live_table stack 0 → fits step tables values labels stack ≡ true
      → width ≡ made_columns step tables (widths_to stack stack.depth) → GroupFits keys column values labels stack table width
  unfolding enough_tables columns_exist made_columns
  group-parts tables values labels stack table width e t w =
      let widths = widths_to stack stack.depth in
      let parts = fits-parts step tables values labels stack t in
      let here = stands stack 0 table parts.0.depth (leb-true 1 stack.depth parts.1) e in
      let placed = (and-eq-true_iff (columns_exist step tables widths) (leb (made_columns step tables widths) 8)).0 parts.2 in
      let exist = (and-eq-true_iff (ltb keys (2 ^ get_or widths 0 0)) (ltb column (get_or widths 0 0))).0 placed.0 in
      record {
        is-ready = parts.0;
        here = here;
        inside_is = inside here parts.0;
        below = ltb-true column _ (rw (top-width here) at exist.1);
        width_is = w ∙ ap (λ (n : ℕ). kept_count keys n + 1) (top-width here);
        narrow = rw w (leb-true _ 8 placed.1);
      }

  module _ (supply : Supply) (m : Memory) (stack : Stack) {table : LiveTable} {width : ℕ} (room : mark_room ≤ length m.marks) (t : fits_in step supply m stack ≡ true)
      (f : GroupFits keys column (length m.work.values) (length m.work.labels) stack table width) where
    abbrev g : Grouping
    g = grouping_of table keys aggregate column width

    abbrev labels : List ℕ
    labels = m.work.labels

    pub source_is : Source (grouping_of table keys aggregate column width) (length m.work.values) (length m.work.labels)
    source_is = record {
      few-rows = f.inside_is.few-rows;
      few-columns = f.inside_is.few-columns;
      has-column = f.below;
      below = f.inside_is.below;
      width_is = f.width_is;
      narrow = f.narrow;
      values-room = f.inside_is.values-room;
      labels-room = f.inside_is.labels-room;
    }

    marked : MarksInside table (length m.marks)
    marked = marks-inside f.here f.is-ready room

    pub marks-are-there : Marks (grouping_of table keys aggregate column width) (length m.marks)
    marks-are-there = record { slot-below = omega (arith, marks-place f.here, f.here.low); below = marked.below; mark-room = room }

    grids : map labels_of (marked_in m table) ≡ labels_in labels table
    grids = grid-is m f.inside_is marked

    -- all that is asked, as the code tests it
    fits-is : group_fits keys aggregate column supply m stack ≡ column_formed_at labels table.at table.rows table.columns column
    fits-is =
        rw (t, table-within f.inside_is, lt-ltb column table.columns f.below)
        (ap (λ (s : List Table). column_formed column (grid (top s))) (stack_top m f.here) ∙ ap (column_formed column) grids)

    verdict-is : verdict step supply (stack_in m stack) ≡ check_group keys column (labels_in labels table)
    unfolding check too_many
    verdict-is = or_nothing _ ∙ ap (λ (s : List Table). check step (length supply.draws) (map grid s)) (stack_top m f.here) ∙ ap (check_group keys column) grids

    made-is : make step supply (stack_in m stack) ≡ record { columns = width; rows = group_rows (grouping_of table keys aggregate column width) m }
    unfolding make grouped
    made-is = rw f.width_is (ap (make step supply) (stack_top m f.here))

    -- the labels refuse it, or are none
    pub refused-group : (wrong : StepError) → error_says wrong ≡ group_says labels table keys column
        → DoneWhere (group_fits keys aggregate column supply m stack) step supply m stack (Err wrong) m
    refused-group wrong e = answered-done step supply m stack wrong verdict-is (e ∙ ap (λ (b : Bool). cond b (says (check_group keys column (labels_in labels table))) unfit) (sym fits-is))

    module _ (e : says fine ≡ group_says labels table keys column) where
      pub allowed : Each (Allowed column) (grouped_rows (grouping_of table keys aggregate column width) (cells_in m.work))
      unfolding check_group
      allowed =
          let p = fine-parts _ e in
          let same : map labels_of (grouped_rows g (cells_in m.work)) ≡ labels_in labels table = ap (map labels_of) (sym (bare-is m f.inside_is marked)) ∙ labels-bare (marked_in m table) ∙ grids in
          let none = (first_fine (not_clear (in_mask keys) 31 0 (labels_in labels table)) (first_row (forbids_at column) 0 (labels_in labels table)) p.1).1 in
          allowed-rows column 0 (grouped_rows g (cells_in m.work)) (rw same (formed-table labels table column p.0).formed) (rw same none)

      pub made-group : {after : Memory} {count : ℕ} → Replaced (grouping_of table keys aggregate column width) m count after
          → DoneWhere (group_fits keys aggregate column supply m stack) step supply m stack (Ok (with_table stack table.slot width count)) after
      made-group {after} {count} r =
          let p = fine-parts _ e in
          made-done step supply m stack (fits-is ∙ p.0) table.slot width count (group_rows g m) after f.is-ready room
          (verdict-is ∙ p.1) f.here.low f.here.depth_is made-is f.narrow r.few r.counted r.wide (at-is f.here) r.rows (marks-place f.here) r.marks

-- arguments that do not fit
pub misfit-first : (keys : ℕ) (aggregate : Aggregate) (column : ℕ) (supply : Supply) (m : Memory) (stack : Stack) → fits_in (Group keys aggregate column) supply m stack ≡ false → group_fits keys aggregate column supply m stack ≡ false
misfit-first keys aggregate column supply m stack e = rw e
