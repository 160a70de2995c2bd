-- The steps of a plan, taken one after the other over work memory.
use Rattle.std.specs.Prelude.{ℕ, ◌*◌, ◌≤◌, ◌≡◌, Bool, true, false, List, [], ◌∷◌, ◌++◌, ℤ, length, get_or, drop, Ok, Err}
use Rattle.std.specs.Prelude.{Result as Answer}
use Rattle.accepted.specs.Accepted.{Placed}
use Rattle.input.specs.Answers.{input_tells}
use Rattle.input.specs.Verdict.{accepted, rejected}
use Rattle.cells.specs.promises.Labelled.{Labelled}
use Rattle.cells.specs.promises.Work.{Memory, AllKept}
use Rattle.memory.specs.promises.Stack.{Ready, table_in, stack_in}
use Rattle.memory.specs.promises.Steps.{widths_of}
use Rattle.memory.specs.Refusals.{refusal_tells}
use Rattle.live_tables.specs.declared.Stack.{Stack}
use Rattle.plan.specs.Evaluate.{Outcome, Result, release, refuse, check_release, ending, behind, evaluate_from}
use Rattle.plan.specs.Supply.{Supply, without_draws}
use Rattle.plan.specs.Table.{Each, Table}
use Rattle.plan.specs.Sense.Trace.{stack_left}
use Rattle.plan.specs.Trace.{Line, flat_lines}
use Rattle.plan.specs.declared.Step.{Step}
use Rattle.plan.specs.declared.Step.TheVariants.{Union}
use Rattle.demands.specs.Given.{Given, year_given, check_given, plan_given, prepared, supply_given}
use Rattle.demands.specs.Monitor.{evaluation, written}
use Rattle.walk_slices.specs.promises.Slices.{walk_room}
use Rattle.walk.specs.declared.Finished.{Finished}
use Rattle.walk.specs.declared.WalkRefusal.{WalkRefusal}
use Rattle.walk.specs.declared.WalkRefusal.TheVariants as refusal

-- what a run is given to read, the overlays in a list
abbrev pub given_of : List ℕ → List ℤ → List (List ℕ) → Given
given_of container draws overlays = record { container = container; draws = draws; overlays = overlays }

-- work memory and the trace have the lengths that a walk needs
abbrev pub room_in : Memory → List ℕ → Bool
room_in work trace = walk_room (length work.work.values) (length work.work.labels) (length work.marks) (length trace)

-- the plan's step at an index
abbrev pub step_number : Given → ℕ → Step
step_number given index = get_or (plan_given given) index Union

-- lines of finished steps, put before those of a result
abbrev pub before : List Line → Result → Result
before [] later = later
before (line ∷ rest) later = behind line (before rest later)

-- what is left for a step when so many draws are used
abbrev pub left_given : Given → ℕ → Supply
left_given given used = without_draws used (supply_given (year_given given) given)

-- Before step number `index`, in slices that held `work₀` and `trace₀` when the walk began: the steps before it are finished and have used so
-- many draws, the trace has their lines, and the evaluation goes on from the stack in work memory.
pub record Going (given : Given) (work₀ : Memory) (trace₀ : List ℕ) (index used : ℕ) (work : Memory) (trace : List ℕ) (stack : Stack) : Type 0 where
  pub kept : AllKept work₀ work
  pub is-ready : Ready (length work.work.values) (length work.work.labels) stack
  pub labelled : Each Labelled (stack_in work stack)
  pub lines : List Line
  pub finished : length lines ≡ index
  pub traced : trace ≡ flat_lines lines ++ drop (4 * length lines) trace₀
  pub places : Placed (widths_of (prepared (year_given given) given)) (widths_of (stack_in work stack)) (drop index (plan_given given))
  pub drawn : used ≤ length given.draws
  pub onward : evaluation (year_given given) given ≡ before lines (evaluate_from (left_given given used) index (stack_in work stack) (drop index (plan_given given)))
  pub to-come : stack_left (supply_given (year_given given) given) [] (plan_given given) ≡ stack_left (left_given given used) (stack_in work stack) (drop index (plan_given given))

-- what the evaluation comes to when its last step is finished: the release of the table left, or 35 or 36
abbrev pub finish : ℕ → Table → Outcome
finish steps table = (ending (check_release table) steps (record { outcome = release table; trace = [] })).outcome

-- the slices of a walk whose steps were taken: the trace has the lines of the evaluation, and what lies past work memory is as it was
pub record Stepped (given : Given) (work₀ : Memory) (trace₀ : List ℕ) (work : Memory) (trace : List ℕ) : Type 0 where
  pub long : room_in work₀ trace₀ ≡ true
  pub accepted-is : check_given given ≡ accepted
  pub kept : AllKept work₀ work
  pub traced : trace ≡ written (flat_lines (evaluation (year_given given) given).trace) trace₀

-- the table that the steps leave stands at the start of work memory, and its release or 35 or 36 is the evaluation's
pub record Left (given : Given) (work : Memory) (steps rows columns : ℕ) : Type 0 where
  pub all-taken : steps ≡ length (plan_given given)
  pub few-rows : rows ≤ 256
  pub few-columns : columns ≤ 8
  pub table_is : stack_left (supply_given (year_given given) given) [] (plan_given given) ≡ table_in work 0 columns rows ∷ []
  pub outcome : (evaluation (year_given given) given).outcome ≡ finish steps (table_in work 0 columns rows)

-- What each answer means, of slices that held `work₀` and `trace₀` before and hold `work` and `trace` afterwards.
abbrev pub Walked : Given → Memory → List ℕ → Answer Finished WalkRefusal → Memory → List ℕ → Type 0
Walked given work₀ trace₀ (Err refusal.TooShort) work trace = (room_in work₀ trace₀ ≡ false) × (work ≡ work₀) × (trace ≡ trace₀)
Walked given work₀ trace₀ (Err (refusal.Input wrong)) work trace =
    (room_in work₀ trace₀ ≡ true) × (input_tells rejected wrong ≡ check_given given) × (work ≡ work₀) × (trace ≡ trace₀)
Walked given work₀ trace₀ (Err (refusal.Step step wrong)) work trace =
    Stepped given work₀ trace₀ work trace
    × ((evaluation (year_given given) given).outcome ≡ refusal_tells (λ number row column. refuse number step row column) wrong)
Walked given work₀ trace₀ (Ok end) work trace =
    Stepped given work₀ trace₀ work trace × Left given work end.steps end.rows end.columns
