-- What every step over work memory promises.
use Rattle.std.specs.Prelude.{ℕ, ◌-◌, ◌≤◌, ◌≡◌, Bool, true, false, cond, ◌&&◌, List, ◌∷◌, map, eqb, leb, length, drop, take, Result, Ok, Err}
use Rattle.cells.specs.declared.DoesNotFit.{DoesNotFit}
use Rattle.cells.specs.promises.Search.{Reply, says, unfit}
use Rattle.cells.specs.promises.Work.{Work, Memory, mark_room, AllKept}
use Rattle.memory.specs.declared.Refusal.{Refusal}
use Rattle.memory.specs.Refusals.{refusal_tells}
use Rattle.live_tables.specs.declared.Stack.{Stack}
use Rattle.memory.specs.declared.StepError.{StepError}
use Rattle.memory.specs.declared.StepError.TheVariants as error
use Rattle.memory.specs.promises.Stack.{ready, last_slot, last_marks, stack_in, widths_to, with_table}
use Rattle.plan.specs.Numbers.{kind_of}
use Rattle.plan.specs.Steps.{takes, check, make, too_many}
use Rattle.plan.specs.Supply.{Supply}
use Rattle.plan.specs.Table.{Table, grid}
use Rattle.plan.specs.Verdict.{Verdict, fine, refused, or_else}
use Rattle.plan.specs.Widths.{enough_tables, placed, made_columns}
use Rattle.plan.specs.declared.Step.{Step}

-- what each refusal says
abbrev pub refusal_says : Refusal → Verdict
refusal_says refusal = refusal_tells refused refusal

-- why a step makes no table
abbrev pub error_says : StepError → Reply
error_says (error.Refused refusal) = says (refusal_says refusal)
error_says error.DoesNotFit = unfit

-- and what the answer of a step, or of a test that it makes, says
abbrev pub step_says : {A : Type 0} → Result A StepError → Reply
step_says (Ok made) = says fine
step_says (Err wrong) = error_says wrong

-- the stack after a step: the one that it made, or the one that it had
abbrev pub stack_after : Stack → Result Stack StepError → Stack
stack_after stack (Ok made) = made
stack_after stack (Err wrong) = stack

-- what a step refuses on a stack: by the labels, and then by the rows made
abbrev pub verdict : Step → Supply → List Table → Verdict
verdict step supply stack = or_else (check step (length supply.draws) (map grid stack)) (too_many step (make step supply stack))

-- slices of these lengths, a stack and a step that fit: the tables and columns that the step names exist, and it makes at most 8 columns.
-- `tables` are the widths of the container's tables.
abbrev pub fits : Step → List ℕ → ℕ → ℕ → Stack → Bool
fits step tables values labels stack =
    ready values labels stack && enough_tables step stack.depth && placed step tables (widths_to stack stack.depth)

-- the columns that it then makes
abbrev pub fit : Step → List ℕ → ℕ → ℕ → Stack → Result ℕ DoesNotFit
fit step tables values labels stack =
    cond (fits step tables values labels stack) (Ok (made_columns step tables (widths_to stack stack.depth))) (Err (record {}))

abbrev pub widths_of : List Table → List ℕ
widths_of tables = map (λ table. table.columns) tables

-- the same of the contents of work memory, its marks included, and of what the plan is given
abbrev pub fits_in : Step → Supply → Memory → Stack → Bool
fits_in step supply memory stack =
    leb mark_room (length memory.marks)
    && fits step (widths_of supply.tables) (length memory.work.values) (length memory.work.labels) stack

-- the stack after a step that made a table: it stands where the lowest table taken stood, and none stands above it
abbrev pub stack_made : Step → Table → Stack → Stack
stack_made step made stack = with_table stack (stack.depth - takes step) made.columns (length made.rows)

-- A step has made its table: the stack is fixed as a whole, and so are all its tables in memory; it still fits. The other elements that a run
-- uses are free (`free`, in `step`).
pub record TableMade (step : Step) (supply : Supply) (before : Memory) (stack : Stack) (done : Result Stack StepError) (after : Memory) : Type 0 where
  pub stack_is : stack_after stack done ≡ stack_made step (make step supply (stack_in before stack)) stack
  pub tables-are : stack_in after (stack_after stack done) ≡ make step supply (stack_in before stack) ∷ drop (takes step) (stack_in before stack)
  pub still : ready (length after.work.values) (length after.work.labels) (stack_after stack done) ≡ true

-- JOIN makes its rows in the last slot, and may say 34 when some are there.
abbrev pub leaves_rows : Step → ℕ → Bool
leaves_rows step number = eqb (kind_of step) 3 && eqb number 34

-- A step is refused: the stack is as it was, and so is work memory, but for the last slot after JOIN's 34, in which no live table stands.
pub record Unmade (step : Step) (number : ℕ) (before : Memory) (stack : Stack) (done : Result Stack StepError) (after : Memory) : Type 0 where
  pub stack_same : stack_after stack done ≡ stack
  pub all_same : leaves_rows step number ≡ false → after ≡ before
  pub values-below : take last_slot after.work.values ≡ take last_slot before.work.values
  pub labels-below : take last_slot after.work.labels ≡ take last_slot before.work.labels
  pub marks-below : take last_marks after.marks ≡ take last_marks before.marks

-- A step handed work memory and a stack, where `fit` says whether these fit: its answer, the stack and work memory after it. `supply` is what is
-- left for it of the container's tables and the draws.
pub record DoneWhere (fit : Bool) (step : Step) (supply : Supply) (before : Memory) (stack : Stack) (done : Result Stack StepError) (after : Memory) : Type 0 where
  -- arguments that do not fit change nothing
  pub misfit : fit ≡ false → (step_says done ≡ unfit) × (stack_after stack done ≡ stack) × (after ≡ before)
  -- the answer is the meaning's
  pub answer : fit ≡ true → step_says done ≡ says (verdict step supply (stack_in before stack))
  pub unmade : fit ≡ true → (number row column : ℕ) → verdict step supply (stack_in before stack) ≡ refused number row column
      → Unmade step number before stack done after
  pub made : fit ≡ true → verdict step supply (stack_in before stack) ≡ fine → TableMade step supply before stack done after
  pub kept : AllKept before after

abbrev pub Done : Step → Supply → Memory → Stack → Result Stack StepError → Memory → Type 0
Done step supply before stack = DoneWhere (fits_in step supply before stack) step supply before stack

-- A step that moves no row is not lent the marks: whatever they are, where they are enough, they stay as they are.
abbrev pub Unmoved : (Memory → Memory → Type 0) → Work → Work → Type 0
Unmoved Does before after =
    (marks : List ℕ) → mark_room ≤ length marks → Does (record { work = before; marks = marks }) (record { work = after; marks = marks })
