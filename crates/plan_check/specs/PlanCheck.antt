-- "Refused because of the input (place: a byte offset)": of a plan 16; then for each step 17, 18, 19.
use Rattle.std.specs.Prelude.{ℕ, zero, suc, ◌+◌, ◌*◌, not, List, [], ◌∷◌, Option, Some, None, eqb, length, drop}
use Rattle.input.specs.Verdict.{InputVerdict, rejected, and_then, reject_if}
use Rattle.plan.specs.Steps.{takes}
use Rattle.plan.specs.Widths.{enough_tables, placed, made_columns}
use Rattle.plan.specs.declared.Step.{Step}
use Rattle.plan_part.specs.PlanPart.{step_count, length_fits}
use Rattle.records.specs.Record.{fields_at, step_of}

-- a step's 18, then its 19, and then the steps after it
abbrev pub check_step : Step → ℕ → List ℕ → List ℕ → InputVerdict → InputVerdict
check_step step place tables stack later =
    and_then (reject_if (not (enough_tables step (length stack))) 18 place) (and_then (reject_if (not (placed step tables stack)) 19 place) later)

abbrev pub check_found : Option Step → ℕ → List ℕ → List ℕ → (Step → InputVerdict) → InputVerdict
check_found (Some step) place tables stack later = check_step step place tables stack (later step)
check_found None place tables stack later = rejected 17 place

-- "17 .. 18 .. 19 .. Place: the step. A plan that leaves other than one table gives 18 at the plan's end." The plan part begins at `at`.
abbrev pub check_steps : List ℕ → ℕ → ℕ → ℕ → List ℕ → List ℕ → InputVerdict
check_steps part at step zero tables stack = reject_if (not (eqb (length stack) 1)) 18 (at + 16 * step)
check_steps part at step (suc more) tables stack =
    check_found (step_of (fields_at part step)) (at + 16 * step) tables stack (λ next.
    check_steps part at (suc step) more tables (made_columns next tables stack ∷ drop (takes next) stack))

unfoldable pub check_plan : List ℕ → ℕ → List ℕ → InputVerdict
check_plan part at tables = and_then (reject_if (not (length_fits part)) 16 at) (check_steps part at 0 (step_count part) tables [])
