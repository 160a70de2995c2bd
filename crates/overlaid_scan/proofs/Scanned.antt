-- SCAN, then the overlays, then the floor: the table that the plan is evaluated over. Assumes nothing.
use Prim.Native.Nat.{ℕ, zero, suc, ◌+◌, ◌-◌, ◌*◌, ◌≤◌, ◌<◌}
use mathlib.Core.Path.{◌≡◌, refl, sym, ap, ap₂, subst, ◌∙◌}
use mathlib.Core.Bool.{Bool, true, false, cond}
use mathlib.Core.List.{List, [], ◌∷◌}
use native.Mathlib.Nat.{add-zero, add-suc, suc-add, zero-add}
use native.Mathlib.Omega.{arith}
use lib.Dec.{eqb}
use lib.IntN.{ℤ}
use lib.ListN.{length, get_or, take, drop}
use borrow.Author.Tests.{le-leb, lt-ltb}
use Rattle.accepted.proofs.AcceptedTables.{marks-length}
use Rattle.cells.specs.promises.Work.{Memory, memory_of, cells_in, room, mark_room, Kept, AllKept}
use Rattle.cells.proofs.CellLaws.{cells-length, kept-none, kept_then, marks-none}
use Rattle.cells.proofs.Rows.{marked-length}
use Rattle.container.specs.Check.{check_input}
use Rattle.container.specs.Contents.{input_tables, tables_of}
use Rattle.floors.specs.Floors.{floored_table, under_year}
use Rattle.input.specs.Verdict.{InputVerdict, accepted}
use Rattle.input.proofs.Laws.{both}
use Rattle.layout.specs.Layout.{part_count, part_of}
use Rattle.live_tables.specs.declared.LiveTable.{LiveTable}
use Rattle.live_tables.specs.declared.Stack.{Stack}
use Rattle.memory.specs.declared.StepError.{StepError}
use Rattle.memory.specs.promises.Stack.{Ready, slot, mark_slot, mark_part, live_at, live_table, table_in, tables_to, stack_in, with_table}
use Rattle.memory.specs.promises.Steps.{TableMade, stack_after}
use Rattle.memory.proofs.Stacks.{Lengths, Below, is-ready, marks-count, tables-same}
use Rattle.overlay_check.specs.OverlayCheck.{overlay_count, check_part, check_part_labels, each_part, check_overlay}
use Rattle.overlay_part.specs.OverlayPart.{overlaid}
use Rattle.overlay_reader.specs.promises.Composing.{after_overlay}
use Rattle.overlaying.specs.promises.Overlaying.{after_overlays, after_reading}
use Rattle.overlays.specs.Overlays.{check_overlays, check_all, overlaid_from, with_overlay, with_overlays}
use Rattle.overlaid.proofs.Overlaid.{container-accepted, overlays-accepted, overlay-passed, tables-ready, overlays-stricter}
use Rattle.overlaid.proofs.Tables.{Whole, Wholes, PartPassed, part-passed, over-whole, floor-whole}
use Rattle.overlaid_scan.specs.Scanned.{MadeOverlaid}
use Rattle.plan.specs.Scan.{scanned}
use Rattle.plan.specs.Secrecy.{none}
use Rattle.plan.specs.Sheets.{InputTable, marks_of, with_marks, all_with_marks}
use Rattle.plan.specs.Steps.{make}
use Rattle.plan.specs.Supply.{Supply, supplied}
use Rattle.plan.specs.Table.{Table, no_table}
use Rattle.plan.specs.declared.Step.{Step}
use Rattle.plan.specs.declared.Step.TheVariants.{Scan, Union, Join, Filter, Keep, Apply, Group, Noise}
use Rattle.plan.proofs.Pairs.{same_length, both-get}
use Rattle.std.specs.Prelude.{Result}
use Rattle.strictness.specs.Strictness.{StricterTables}
use Rattle.overlaid_scan.proofs.Composed.{Changed, one-composed, one-floored}

-- ---- one table of those with overlays

abbrev no_input : InputTable
no_input = record { columns = 0; sheets = 0; rows = 0; cells = [] }

-- a table with its parts of the overlays
abbrev onto : List ℕ → ℕ → InputTable → InputTable
onto overlay table input = cond (eqb (length overlay) 0) input (overlaid (part_of overlay table) input)

abbrev onto_all : List (List ℕ) → ℕ → InputTable → InputTable
onto_all [] table input = input
onto_all (overlay ∷ rest) table input = onto_all rest table (onto overlay table input)

from-length : (overlay : List ℕ) (part : ℕ) (tables : List InputTable) → length (overlaid_from overlay part tables) ≡ length tables
from-length overlay part [] = refl
from-length overlay part (table ∷ rest) = ap suc (from-length overlay (suc part) rest)

from_at : (overlay : List ℕ) (part : ℕ) (tables : List InputTable) (t : ℕ) → t < length tables
    → get_or (overlaid_from overlay part tables) t no_input ≡ overlaid (part_of overlay (part + t)) (get_or tables t no_input)
from_at overlay part [] t h = absurd (omega arith)
from_at overlay part (table ∷ rest) zero h = rw (add-zero part)
from_at overlay part (table ∷ rest) (suc t) h = rw (add-suc part t ∙ sym (suc-add part t)) (from_at overlay (suc part) rest t (omega arith))

with-length : (overlay : List ℕ) (tables : List InputTable) → length (with_overlay overlay tables) ≡ length tables
with-length overlay tables = go (eqb (length overlay) 0)
  where
    go : (empty : Bool) → length (cond empty tables (overlaid_from overlay 0 tables)) ≡ length tables
    go true = refl
    go false = from-length overlay 0 tables

with_at : (overlay : List ℕ) (tables : List InputTable) (t : ℕ) → t < length tables → get_or (with_overlay overlay tables) t no_input ≡ onto overlay t (get_or tables t no_input)
with_at overlay tables t h = go (eqb (length overlay) 0)
  where
    go : (empty : Bool) → get_or (cond empty tables (overlaid_from overlay 0 tables)) t no_input ≡ cond empty (get_or tables t no_input) (overlaid (part_of overlay t) (get_or tables t no_input))
    go true = refl
    go false = from_at overlay 0 tables t h ∙ rw (zero-add t)

all-at : (overlays : List (List ℕ)) (tables : List InputTable) (t : ℕ) → t < length tables → get_or (with_overlays overlays tables) t no_input ≡ onto_all overlays t (get_or tables t no_input)
all-at [] tables t h = refl
all-at (overlay ∷ rest) tables t h =
    all-at rest (with_overlay overlay tables) t (omega (arith, h, with-length overlay tables)) ∙ ap (onto_all rest t) (with_at overlay tables t h)

all-length : (overlays : List (List ℕ)) (tables : List InputTable) → length (with_overlays overlays tables) ≡ length tables
all-length [] tables = refl
all-length (overlay ∷ rest) tables = all-length rest (with_overlay overlay tables) ∙ with-length overlay tables

marked-at : (table : ℕ) (inputs : List InputTable) (t : ℕ) → t < length inputs → get_or (all_with_marks table inputs) t no_table ≡ with_marks (table + t) (get_or inputs t no_input)
marked-at table [] t h = absurd (omega arith)
marked-at table (input ∷ rest) zero h = rw (add-zero table)
marked-at table (input ∷ rest) (suc t) h = rw (add-suc table t ∙ sym (suc-add table t)) (marked-at (suc table) rest t (omega arith))

under-length : (year : ℕ) (tables : List InputTable) → length (under_year year tables) ≡ length tables
under-length year [] = refl
under-length year (table ∷ rest) = ap suc (under-length year rest)

under_at : (year : ℕ) (tables : List InputTable) (t : ℕ) → t < length tables → get_or (under_year year tables) t no_input ≡ floored_table year (get_or tables t no_input)
under_at year [] t h = absurd (omega arith)
under_at year (table ∷ rest) zero h = refl
under_at year (table ∷ rest) (suc t) h = under_at year rest t (omega arith)

whole-at : (container : List ℕ) (part : ℕ) (tables : List InputTable) → Wholes container part tables → (t : ℕ) → t < length tables
    → Whole (part_of container (part + t)) (get_or tables t no_input)
whole-at container part [] w t h = absurd (omega arith)
whole-at container part (table ∷ rest) w zero h = rw (add-zero part) w.0
whole-at container part (table ∷ rest) w (suc t) h = rw (add-suc part t ∙ sym (suc-add part t)) (whole-at container (suc part) rest w.1 t (omega arith))

-- ---- the overlays, one after the other

each_at : (check : ℕ → InputVerdict) (part count : ℕ) → each_part check part count ≡ accepted → (t : ℕ) → t < count → check (part + t) ≡ accepted
each_at check part zero e t h = absurd (omega arith)
each_at check part (suc count) e zero h = rw (add-zero part) (both (check part) _ e).0
each_at check part (suc count) e (suc t) h = rw (add-suc part t ∙ sym (suc-add part t)) (each_at check (suc part) count (both (check part) _ e).1 t (omega arith))

passed-at : (container overlay : List ℕ) → eqb (length overlay) 0 ≡ false → check_overlay container overlay ≡ accepted → (t : ℕ) → t < part_count container - 1
    → PartPassed (part_of container (suc t)) (part_of overlay t)
passed-at container overlay some e t h =
    let p = overlay-passed container overlay some e in
    let few : t < overlay_count overlay = omega (arith, p.counted, h) in
    part-passed container overlay t (rw (zero-add t) at (each_at (check_part container overlay) 0 (overlay_count overlay) p.parts t few))
    (rw (zero-add t) at (each_at (check_part_labels overlay) 0 (overlay_count overlay) p.labels t few))

-- what stays as it was when the labels of a slot's table change
record Relabelled (index : ℕ) (before after : Memory) : Type 0 where
  below : Below index before after
  kept : Kept before.work after.work
  cells-long : length (cells_in after.work) ≡ length (cells_in before.work)

unchanged : (index : ℕ) (m : Memory) → Relabelled index m m
unchanged index m = record { below = record { cells = refl; marks = refl }; kept = kept-none m.work; cells-long = refl }

and_again : {index : ℕ} {a b c : Memory} → Relabelled index a b → Relabelled index b c → Relabelled index a c
and_again r s = record {
  below = record { cells = s.below.cells ∙ r.below.cells; marks = s.below.marks ∙ r.below.marks };
  kept = kept_then r.kept s.kept;
  cells-long = s.cells-long ∙ r.cells-long;
}

-- the table in a slot of memory that is long enough
record Stands (m : Memory) (index columns rows table : ℕ) (p : List ℕ) (input : InputTable) : Type 0 where
  values-room : room ≤ length m.work.values
  labels-room : room ≤ length m.work.labels
  whole : Whole p input
  count : length input.cells ≡ rows * columns
  is : table_in m index columns rows ≡ with_marks table input

-- the labels of that table have changed
stood : {m m' : Memory} {index columns rows table : ℕ} {p : List ℕ} {input other : InputTable} → Stands m index columns rows table p input → Whole p other
    → m'.work.values ≡ m.work.values → m'.marks ≡ m.marks → Changed m m' index columns rows table other
    → Stands m' index columns rows table p other × Relabelled index m m'
stood {index = index} s w v k c = (
  record {
    values-room = rw v s.values-room;
    labels-room = omega (arith, s.labels-room, c.kept.as-many-labels);
    whole = w;
    count = c.count;
    is = c.is;
  },
  record { below = record { cells = c.below; marks = ap (take (mark_slot index)) k }; kept = c.kept; cells-long = c.cells-long },
)

module _ (container : List ℕ) (table : ℕ) (there : table < part_count container - 1) (index columns rows : ℕ) (low : index < 3) (few : rows ≤ 256) (narrow : columns ≤ 8) where
  abbrev p : List ℕ
  p = part_of container (suc table)

  abbrev live : LiveTable
  live = record { slot = index; at = slot index; marks = mark_slot index; rows = rows; columns = columns }

  -- memory after one overlay
  abbrev after_one : List ℕ → Memory → Memory
  after_one overlay m = memory_of m.work.values (after_overlay overlay table (slot index) rows columns m.work.labels) m.marks

  none-there : (overlay : List ℕ) → eqb (length overlay) 0 ≡ true → (m : Memory) → after_overlay overlay table (slot index) rows columns m.work.labels ≡ m.work.labels
  unfolding after_overlay
  none-there overlay e m = rw e

  one : (overlay : List ℕ) → check_overlay container overlay ≡ accepted → (m : Memory) → mark_room ≤ length m.marks → (input : InputTable) → Stands m index columns rows table p input
      → Stands (after_one overlay m) index columns rows table p (onto overlay table input) × Relabelled index m (after_one overlay m)
  one overlay e m marks input s = go (eqb (length overlay) 0) refl
    where
      go : (empty : Bool) → eqb (length overlay) 0 ≡ empty
          → Stands (after_one overlay m) index columns rows table p (cond empty input (overlaid (part_of overlay table) input)) × Relabelled index m (after_one overlay m)
      go true f = rw (none-there overlay f m) (s, unchanged index m)
      go false f =
          let passes = passed-at container overlay f e table there in
          let c = one-composed m index columns rows low few narrow s.values-room s.labels-room marks table p input s.whole s.is s.count overlay f passes in
          stood s (over-whole p (part_of overlay table) passes input s.whole) refl refl c

  all : (overlays : List (List ℕ)) → check_overlays container overlays ≡ accepted → (m : Memory) → mark_room ≤ length m.marks → (input : InputTable) → Stands m index columns rows table p input
      → let m' = memory_of m.work.values (after_overlays overlays table live m.work.labels) m.marks in
      Stands m' index columns rows table p (onto_all overlays table input) × Relabelled index m m'
  all [] e m marks input s = (s, unchanged index m)
  all (overlay ∷ rest) e m marks input s =
      let b = both (check_overlay container overlay) _ e in
      let first = one overlay b.0 m marks input s in
      let later = all rest b.1 (after_one overlay m) marks (onto overlay table input) first.0 in
      (later.0, and_again first.1 later.1)

  -- and the floor after them
  read : (year : ℕ) (overlays : List (List ℕ)) → check_overlays container overlays ≡ accepted → (m : Memory) → mark_room ≤ length m.marks → (input : InputTable) → Stands m index columns rows table p input
      → let m' = memory_of m.work.values (after_reading year overlays table live m.work.labels) m.marks in
      Stands m' index columns rows table p (floored_table year (onto_all overlays table input)) × Relabelled index m m'
  read year overlays e m marks input s =
      let over = all overlays e m marks input s in
      let t = over.0 in
      let c = one-floored _ index columns rows low few narrow t.values-room t.labels-room marks table p (onto_all overlays table input) t.whole t.is t.count year in
      let floor = stood t (floor-whole year t.whole) refl refl c in
      (floor.0, and_again over.1 floor.1)

-- ---- the step

-- a step that is no SCAN makes the same of any tables
same-made : (step : Step) (supply other : Supply) (before after : Memory) (stack : Stack) (done : Result Stack StepError)
    → make step supply (stack_in before stack) ≡ make step other (stack_in before stack)
    → TableMade step supply before stack done after → TableMade step other before stack done after
same-made step supply other before after stack done e t = record {
  stack_is = rw (← e) t.stack_is;
  tables-are = rw (← e) t.tables-are;
  still = t.still;
}

all-kept : (m : Memory) → AllKept m m
all-kept m = record { work = kept-none m.work; marks = marks-none m.marks }

module _ (year : ℕ) (container : List ℕ) (overlays : List (List ℕ)) (ok : check_all container overlays ≡ accepted) (table : ℕ) (there : table < part_count container - 1) where
  abbrev inputs : List InputTable
  inputs = input_tables container

  abbrev input : InputTable
  input = get_or inputs table no_input

  ready : check_input container ≡ accepted
  ready = container-accepted container overlays ok

  inside : table < length inputs
  inside = omega (arith, there, (tables-ready container ready).as_many)

  abbrev under : List InputTable
  under = under_year year (with_overlays overlays inputs)

  -- what SCAN makes of the container's tables, and of those with overlays and the floor
  plain : get_or (tables_of container) table no_table ≡ with_marks table input
  unfolding tables_of
  plain = marked-at 0 inputs table inside ∙ rw (zero-add table)

  strict : get_or (all_with_marks 0 under) table no_table ≡ with_marks table (floored_table year (onto_all overlays table input))
  strict =
      let long : table < length (with_overlays overlays inputs) = omega (arith, inside, all-length overlays inputs) in
      marked-at 0 under table (omega (arith, long, under-length year (with_overlays overlays inputs))) ∙ rw (zero-add table)
      (ap (with_marks table) (under_at year (with_overlays overlays inputs) table long ∙ ap (floored_table year) (all-at overlays inputs table inside)))

  whole : Whole (part_of container (suc table)) input
  whole = let n : 1 + table ≡ suc table = omega arith in rw n at (whole-at container 1 inputs (tables-ready container ready).wholes table inside)

  same_shape : StricterTables (get_or (tables_of container) table no_table) (get_or (all_with_marks 0 under) table no_table)
  same_shape = both-get table no_table (record { columns = refl; rows = none }) (overlays-stricter year container overlays ok)

  -- the table in a slot is SCAN's
  module _ (m : Memory) (index columns rows : ℕ) (low : index < 3) (few : rows ≤ 256) (marks : mark_room ≤ length m.marks) (e : table_in m index columns rows ≡ with_marks table input) where
    as-many-columns : columns ≡ input.columns
    unfolding with_marks
    as-many-columns = ap (λ (t : Table). t.columns) e

    as-many-rows : rows ≡ input.rows
    unfolding with_marks
    as-many-rows =
        sym (marked-length columns (mark_part m.marks (mark_slot index) rows) _ ∙ marks-count m.marks (mark_slot index) rows (omega arith))
        ∙ ap (λ (t : Table). length t.rows) e
        ∙ marked-length input.columns (marks_of table input) input.cells ∙ marks-length input.sheets input.columns table 0 input.rows input.cells

    stands : room ≤ length m.work.values → room ≤ length m.work.labels → Stands m index columns rows table (part_of container (suc table)) input
    stands v l = record {
      values-room = v;
      labels-room = l;
      whole = whole;
      count = whole.sound.whole ∙ ap₂ ◌*◌ (sym as-many-rows) (sym as-many-columns);
      is = e;
    }

  -- SCAN has pushed the table, into the slot below the stack's depth
  module _ (draws : List ℤ) (before after : Memory) (stack : Stack) (done : Result Stack StepError) (marks : mark_room ≤ length after.marks)
      (t : TableMade (Scan table) (supplied (tables_of container) draws) before stack done after) where
    abbrev pushed : Stack
    pushed = stack_after stack done

    abbrev Overlaid : LiveTable → Type 0
    Overlaid live =
        let m = memory_of after.work.values (after_reading year overlays table live after.work.labels) after.marks in
        TableMade (Scan table) (supplied (all_with_marks 0 under) draws) before stack done m × AllKept after m

    fit : Ready (length after.work.values) (length after.work.labels) pushed
    fit = is-ready _ _ pushed t.still

    module _ (index : ℕ) (d : pushed.depth ≡ suc index) where
      low : index < 3
      low = omega (arith, d, fit.depth)

      live-is : live_table pushed 0 ≡ live_at pushed index
      unfolding live_table
      live-is = let n : suc index - 1 - 0 ≡ index = omega arith in rw (d, le-leb (suc index) 3 low, lt-ltb 0 (suc index) (omega arith), n)

      abbrev columns : ℕ
      columns = get_or pushed.columns index 0

      abbrev rows : ℕ
      rows = get_or pushed.rows index 0

      stack-tables : table_in after index columns rows ∷ tables_to after pushed index ≡ get_or (tables_of container) table no_table ∷ stack_in before stack
      unfolding make scanned
      stack-tables = sym (ap (tables_to after pushed) d) ∙ t.tables-are

      overlaid-so : Overlaid (live_at pushed index)
      unfolding make scanned
      overlaid-so =
          let few = fit.rows index low in
          let now = read container table there index columns rows low few (fit.columns index low) year overlays (overlays-accepted container overlays ok) after marks input
          (stands after index columns rows low few marks (ap (λ (l : List Table). get_or l 0 no_table) stack-tables ∙ plain) fit.values-room fit.labels-room) in
          let m = memory_of after.work.values (after_reading year overlays table (live_at pushed index) after.work.labels) after.marks in
          let long : Lengths after m
          = record { cells-room = cells-length after.work room fit.values-room fit.labels-room; cells-long = now.1.cells-long; marks-room = marks; marks-long = refl } in
          let lower = tables-same after m long pushed pushed fit index (omega (arith, low)) (λ i _. refl) (λ i _. refl) now.1.below in (
            record {
              stack_is = t.stack_is ∙ ap₂ (with_table stack (stack.depth - 0)) same_shape.columns (same_length same_shape.rows);
              tables-are = ap (tables_to m pushed) d ∙ ap₂ ◌∷◌ (now.0.is ∙ sym strict) (lower ∙ ap (drop 1) stack-tables);
              still = rw now.1.kept.as-many-labels t.still;
            },
            record { work = now.1.kept; marks = marks-none after.marks },
          )

    scan-overlaid : Overlaid (live_table pushed 0)
    scan-overlaid = go pushed.depth refl
      where
        go : (depth : ℕ) → pushed.depth ≡ depth → Overlaid (live_table pushed 0)
        go zero d = absurd (omega (arith, ap length (sym (ap (tables_to after pushed) d) ∙ t.tables-are)))
        go (suc index) d = subst Overlaid (sym (live-is index d)) (overlaid-so index d)

pub made-overlaid : MadeOverlaid
unfolding make
made-overlaid year container overlays e draws (Scan table) there before after stack done marks t = scan-overlaid year container overlays e table there draws before after stack done marks t
made-overlaid year container overlays e draws Union there before after stack done marks t = (same-made Union _ _ before after stack done refl t, all-kept after)
made-overlaid year container overlays e draws (Join left right) there before after stack done marks t = (same-made (Join left right) _ _ before after stack done refl t, all-kept after)
made-overlaid year container overlays e draws (Filter column comparison operand) there before after stack done marks t =
    (same-made (Filter column comparison operand) _ _ before after stack done refl t, all-kept after)
made-overlaid year container overlays e draws (Keep mask) there before after stack done marks t = (same-made (Keep mask) _ _ before after stack done refl t, all-kept after)
made-overlaid year container overlays e draws (Apply column transform) there before after stack done marks t = (same-made (Apply column transform) _ _ before after stack done refl t, all-kept after)
made-overlaid year container overlays e draws (Group keys aggregate column) there before after stack done marks t =
    (same-made (Group keys aggregate column) _ _ before after stack done refl t, all-kept after)
made-overlaid year container overlays e draws (Noise column) there before after stack done marks t = (same-made (Noise column) _ _ before after stack done refl t, all-kept after)
