-- One step of a plan and its line. Assumes nothing.
use Prim.Native.Nat.{ℕ, ◌+◌, ◌*◌, ◌≤◌, ◌<◌}
use mathlib.Core.Path.{◌≡◌, sym, ap, subst, ◌∙◌}
use mathlib.Core.Bool.{Bool, true}
use mathlib.Core.List.{List}
use native.Mathlib.Omega.{arith}
use lib.ListN.{length, drop}
use borrow.Author.Tests.{le-leb}
use Rattle.input.specs.Verdict.{accepted}
use Rattle.layout.specs.Layout.{part_of}
use Rattle.cells.specs.promises.Search.{says}
use Rattle.cells.specs.promises.Work.{Memory, memory_of, room, mark_room, AllKept}
use Rattle.memory.specs.promises.Stack.{Ready, stack_in}
use Rattle.memory.specs.promises.Steps.{step_says, verdict, Done}
use Rattle.live_tables.specs.declared.Stack.{Stack}
use Rattle.memory.specs.declared.StepError.{StepError}
use Rattle.std.specs.Prelude.{Option, Some, unwrap_or, Result, Ok}
use Rattle.plan.specs.Table.{top}
use Rattle.plan.specs.Trace.{line_of}
use Rattle.plan.specs.Verdict.{fine}
use Rattle.plan.specs.declared.Step.{Step}
use Rattle.plan_part.specs.promises.Steps.{step_at}
use Rattle.step.specs.promises.Taking.{Taken}
use Rattle.trace_lines.specs.promises.Lines.{with_line}
use Rattle.walk_slices.specs.promises.Slices.{LineWritten}
use Rattle.walk.specs.promises.Steady.{Steady}
use Rattle.walk.specs.promises.Walk.{step_number, left_given}
use Rattle.accepted.proofs.AcceptedPlan.{steps-counted, steps-found}
use Rattle.overlaying.specs.promises.Overlaying.{after_step}
use Rattle.walk.proofs.TakenMeaning.{taken-says, taken-done}
use Rattle.memory.proofs.Finish.{says_is}
use Rattle.plan.specs.declared.Step.TheVariants.{Union}
use Rattle.memory.proofs.Stacks.{is-ready, to-ready, stack-length}
use Rattle.walk_slices.proofs.LineMeaning.{longer}
use Rattle.demands.specs.Given.{Given, year_given, check_given, plan_given}
use Rattle.demands.proofs.Prepared.{container-ok}

-- the record at an index of an accepted plan has its step
module _ (given : Given) (index : ℕ) (ok : check_given given ≡ accepted) (h : index < length (plan_given given)) {part : List ℕ} (p : part ≡ part_of given.container 0) {f : Option Step} (e : f ≡ step_at part index) where
  pub there : f ≡ Some (step_number given index)
  there = e ∙ ap (λ (part : List ℕ). step_at part index) p ∙ steps-found given.container (container-ok given ok) index (omega (arith, steps-counted given.container (container-ok given ok)))

  pub found-step : {next : Step} → f ≡ Some next → next ≡ step_number given index
  found-step some = ap (λ (found : Option Step). unwrap_or found Union) (sym some ∙ there)

module _ {given : Given} (index used : ℕ) {w : Memory} {stack : Stack} (s : Steady given (step_number given index) w stack) {known : Step} (e : known ≡ step_number given index)
    {done : Result Stack StepError} {w' : Memory} (t : Taken given.container (drop used given.draws) known w stack done w') where
  taken : Taken given.container (drop used given.draws) (step_number given index) w stack done w'
  taken = subst (λ (k : Step). Taken given.container (drop used given.draws) k w stack done w') e t

  pub says_so : step_says done ≡ says (verdict (step_number given index) (left_given given used) (stack_in w stack))
  says_so = taken-says used (step_number given index) s taken

  pub kept-so : AllKept w w'
  kept-so = t.kept

-- the table is made, and the overlays are composed onto the labels of one that was scanned, which are then read under the year
module _ {given : Given} (index used : ℕ) {w : Memory} {stack : Stack} (s : Steady given (step_number given index) w stack) {known : Step} (e : known ≡ step_number given index)
    {made : Stack} {w' : Memory} (taking : Taken given.container (drop used given.draws) known w stack (Ok made) w')
    (many : mark_room ≤ length w.marks) {labels : List ℕ} (o : labels ≡ after_step (year_given given) given.overlays known made w'.work.labels) where
  abbrev left : Memory
  left = memory_of w'.work.values labels w'.marks

  pub done-so : Done (step_number given index) (left_given given used) w stack (Ok made) (memory_of w'.work.values labels w'.marks)
  done-so = taken-done used (step_number given index) s (taken index used s e taking) many (o ∙ ap (λ (k : Step). after_step (year_given given) given.overlays k made w'.work.labels) e)

  allowed : verdict (step_number given index) (left_given given used) (stack_in w stack) ≡ fine
  allowed = says_is (sym (says_so index used s e taking))

  -- the table made is on the stack
  some-made : 1 ≤ made.depth
  some-made =
      let n : length (stack_in left made) ≡ made.depth = stack-length left made made.depth in
      let more = ap length (done-so.made s.fits-is allowed).tables-are in
      omega (arith, n, more)

  still-ready : Ready (length w'.work.values) (length labels) made
  still-ready = is-ready (length w'.work.values) (length labels) made (done-so.made s.fits-is allowed).still

  pub line_made : (t : List ℕ) {t' : List ℕ} {told : Bool} → 4 * index + 4 ≤ length t
      → LineWritten labels t made index known told t' → t' ≡ with_line index (line_of (step_number given index) (top (stack_in left made))) t
  line_made t {told = told} long line =
      let stands : told ≡ true
      = line.told ∙ rw (to-ready _ _ _ (longer room (omega arith) still-ready), le-leb 1 _ some-made, le-leb _ _ long) in
      line.trace-is w'.work.values w'.marks still-ready.values-room (omega (arith, many, taking.kept.marks.as_many))
      ∙ rw stands (ap (λ (k : Step). with_line index (line_of k (top (stack_in left made))) t) e)
