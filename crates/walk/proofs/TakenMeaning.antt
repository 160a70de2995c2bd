-- A step of an accepted container's plan does what every step promises. Assumes nothing.
use Prim.Native.Nat.{ℕ, ◌+◌, ◌-◌, ◌*◌, ◌≤◌, ◌<◌}
use mathlib.Core.Path.{◌≡◌, refl, sym, ap, ◌∙◌}
use mathlib.Core.Bool.{Bool, true, ◌&&◌, true≢false, and-true, and-eq-true_iff}
use mathlib.Core.List.{List}
use native.Mathlib.Omega.{arith}
use lib.Dec.{leb}
use lib.IntN.{ℤ}
use lib.ListN.{length, drop, length-map}
use borrow.Author.Tests.{ltb-true, le-leb}
use Rattle.layout.specs.Layout.{part_count, part_of}
use Rattle.table_part.specs.TablePart.{columns_of, sheets_of, row_count, cell_count}
use Rattle.memory.specs.promises.Stack.{widths_to, stack_in}
use Rattle.memory.specs.promises.Steps.{step_says, verdict, widths_of, fits, fits_in, Done}
use Rattle.live_tables.specs.declared.Stack.{Stack}
use Rattle.memory.specs.declared.StepError.{StepError}
use Rattle.std.specs.Prelude.{Result, Ok}
use Rattle.plan.specs.Steps.{check, make, too_many}
use Rattle.plan.specs.Supply.{supplied}
use Rattle.plan.specs.Table.{Table}
use Rattle.plan.specs.Verdict.{fine}
use Rattle.plan.specs.Widths.{columns_exist}
use Rattle.plan.specs.declared.Step.{Step}
use Rattle.plan.specs.declared.Step.TheVariants.{Scan, Union, Join, Filter, Keep, Apply, Group, Noise}
use Rattle.cells.specs.promises.Search.{says}
use Rattle.cells.specs.promises.Work.{Memory, memory_of, mark_room}
use Rattle.cells.proofs.CellLaws.{kept_then, marks_then}
use Rattle.scan.specs.promises.Scanning.{cells_fit}
use Rattle.step.specs.promises.Taking.{supply_of, step_fits, Taken}
use Rattle.walk.specs.promises.Steady.{Steady}
use Rattle.walk.specs.promises.Walk.{left_given}
use Rattle.apply.proofs.Laws.{apply-fits}
use Rattle.accepted.proofs.AcceptedTables.{tables-counted, tables-found, header-means}
use Rattle.group.proofs.Laws.{group-fits}
use Rattle.memory.proofs.Finish.{says_is}
use Rattle.memory.proofs.LiveTables.{fits-parts}
use Rattle.noise.proofs.Laws.{noise-fits}
use Rattle.overlaying.specs.promises.Overlaying.{after_step}
use Rattle.plan.proofs.Alike.{never}
use Rattle.container.specs.Contents.{tables_of}
use Rattle.demands.specs.Given.{Given, year_given, prepared, supply_given}
use Rattle.demands.proofs.Prepared.{container-ok, widths-same}
use Rattle.overlaid_scan.specs.Scanned.{ScansThere}
use Rattle.overlaid_scan.proofs.Scanned.{made-overlaid}

-- what fits beside the marks
fitted : (b c : Bool) → (b && c) ≡ true → c ≡ true
fitted b c e = ((and-eq-true_iff b c).0 e).1

-- the table of a SCAN exists
there : {given : Given} {table : ℕ} {w : Memory} {stack : Stack} → Steady given (Scan table) w stack → table < part_count given.container - 1
unfolding columns_exist
there {given} {table} {w} {stack} s =
    let exist = ((and-eq-true_iff (columns_exist (Scan table) (widths_of (prepared (year_given given) given)) (widths_to stack stack.depth)) _).0 (fits-parts (Scan table) (widths_of (prepared (year_given given) given)) (length w.work.values) (length w.work.labels) stack (fitted (leb mark_room (length w.marks)) _ s.fits-is)).2).0 in
    omega (arith, ltb-true table (length (widths_of (prepared (year_given given) given))) exist, ap length (widths-same (year_given given) given s.accepted-is), length-map (tables_of given.container) (λ table. table.columns), tables-counted given.container (container-ok given s.accepted-is))

scans-there : {given : Given} (step : Step) {w : Memory} {stack : Stack} → Steady given step w stack → ScansThere given.container step
scans-there (Scan table) s = there s
scans-there Union s = tt
scans-there (Join left right) s = tt
scans-there (Filter column comparison operand) s = tt
scans-there (Keep mask) s = tt
scans-there (Apply column transform) s = tt
scans-there (Group keys aggregate column) s = tt
scans-there (Noise column) s = tt

-- the cells of a table of an accepted container fit
cells-fit : {given : Given} {table : ℕ} {w : Memory} {stack : Stack} → Steady given (Scan table) w stack → cells_fit (part_of given.container (table + 1)) ≡ true
cells-fit {given} {table} s =
    let part = part_of given.container (table + 1) in
    let found = tables-found given.container (container-ok given s.accepted-is) table (there s) in
    let h = header-means part found.0 in
    rw (le-leb (columns_of part) 8 h.1, le-leb (row_count part) 256 h.2, le-leb (sheets_of part) (columns_of part) found.1, le-leb (4 + 12 * cell_count part) (length part) (omega (arith, h.3)))

-- with overlays and under a year the tables have the widths that they have without
same-fit : {given : Given} (draws : List ℤ) (step : Step) {w : Memory} {stack : Stack} → Steady given step w stack
    → fits_in step (supply_of given.container draws) w stack ≡ fits_in step (supply_given (year_given given) given) w stack
same-fit {given} draws step {w} {stack} s =
    ap (λ (widths : List ℕ). leb mark_room (length w.marks) && fits step widths (length w.work.values) (length w.work.labels) stack) (widths-same (year_given given) given s.accepted-is)

-- so it asks no more than what every step asks
steps-fit : {given : Given} (draws : List ℤ) (step : Step) {w : Memory} {stack : Stack} → Steady given step w stack
    → step_fits given.container draws step w stack ≡ fits_in step (supply_of given.container draws) w stack
steps-fit {given} draws (Scan table) {w} {stack} s =
    let fit = fits (Scan table) (widths_of (tables_of given.container)) (length w.work.values) (length w.work.labels) stack in
    ap (λ (b : Bool). leb mark_room (length w.marks) && (fit && b)) (cells-fit s) ∙ ap (λ (b : Bool). leb mark_room (length w.marks) && b) (and-true fit)
steps-fit draws Union s = refl
steps-fit draws (Join left right) s = refl
steps-fit draws (Filter column comparison operand) s = refl
steps-fit draws (Keep mask) s = refl
steps-fit {given} draws (Apply column transform) {w} {stack} s =
    let fit = same-fit draws (Apply column transform) s ∙ s.fits-is in
    apply-fits column transform (supply_of given.container draws) w stack fit s.exists s.labelled ∙ sym fit
steps-fit {given} draws (Group keys aggregate column) {w} {stack} s =
    let fit = same-fit draws (Group keys aggregate column) s ∙ s.fits-is in
    group-fits keys aggregate column (supply_of given.container draws) w stack fit s.labelled ∙ sym fit
steps-fit {given} draws (Noise column) {w} {stack} s =
    let fit = same-fit draws (Noise column) s ∙ s.fits-is in
    noise-fits column (supply_of given.container draws) w stack fit s.labelled ∙ sym fit

-- what a step refuses does not hang on the container's tables
same-verdict : (step : Step) (tables others : List Table) (draws : List ℤ) (stack : List Table)
    → verdict step (supplied tables draws) stack ≡ verdict step (supplied others draws) stack
unfolding check make too_many
same-verdict (Scan table) tables others draws stack = refl
same-verdict Union tables others draws stack = refl
same-verdict (Join left right) tables others draws stack = refl
same-verdict (Filter column comparison operand) tables others draws stack = refl
same-verdict (Keep mask) tables others draws stack = refl
same-verdict (Apply column transform) tables others draws stack = refl
same-verdict (Group keys aggregate column) tables others draws stack = refl
same-verdict (Noise column) tables others draws stack = refl

module _ {given : Given} (used : ℕ) (step : Step) {w : Memory} {stack : Stack} {done : Result Stack StepError} {after : Memory} (s : Steady given step w stack)
    (t : Taken given.container (drop used given.draws) step w stack done after) where
  abbrev draws : List ℤ
  draws = drop used given.draws

  fit : step_fits given.container draws step w stack ≡ true
  fit = steps-fit draws step s ∙ same-fit draws step s ∙ s.fits-is

  -- what it answers
  pub taken-says : step_says done ≡ says (verdict step (left_given given used) (stack_in w stack))
  taken-says = t.answer fit ∙ ap says (same-verdict step (tables_of given.container) (prepared (year_given given) given) draws (stack_in w stack))

-- and with the overlays and the floor, where it has made its table
module _ {given : Given} (used : ℕ) (step : Step) {w : Memory} {stack made : Stack} {after : Memory} (s : Steady given step w stack)
    (t : Taken given.container (drop used given.draws) step w stack (Ok made) after) where
  pub taken-done : mark_room ≤ length w.marks → {labels : List ℕ} → labels ≡ after_step (year_given given) given.overlays step made after.work.labels
      → Done step (left_given given used) w stack (Ok made) (memory_of after.work.values labels after.marks)
  taken-done room-is e =
      let allowed : verdict step (left_given given used) (stack_in w stack) ≡ fine = says_is (sym (taken-says used step s t)) in
      let plain = t.made (fit used step s t) (same-verdict step (tables_of given.container) (prepared (year_given given) given) (drop used given.draws) (stack_in w stack) ∙ allowed) in
      let over = made-overlaid (year_given given) given.container given.overlays s.accepted-is (drop used given.draws) step (scans-there step s) w after stack (Ok made) (omega (arith, room-is, t.kept.marks.as_many)) plain in
      rw e (record {
        misfit = λ f. absurd (true≢false (sym s.fits-is ∙ f));
        answer = λ _. taken-says used step s t;
        unmade = λ _ number row column v. absurd (never (sym v ∙ allowed));
        made = λ _ _. over.0;
        kept = record { work = kept_then t.kept.work over.1.work; marks = marks_then t.kept.marks over.1.marks };
      })
