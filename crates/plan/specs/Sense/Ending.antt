-- How an evaluation ends: which table it releases, which check refuses, and how many lines it has written. These are theorems about the definitions, each proved; nothing here
-- is to be believed.
use Rattle.std.specs.Prelude.{ℕ, ◌≡◌, List, [], ◌∷◌, ◌++◌, map, length}
use Rattle.plan.specs.Evaluate.{release, refuse, check_release, evaluate}
use Rattle.plan.specs.Sense.Trace.{stack_left, supply_left}
use Rattle.plan.specs.Steps.{check, make, too_many}
use Rattle.plan.specs.Supply.{Supply}
use Rattle.plan.specs.Table.{Table, grid, top}
use Rattle.plan.specs.Verdict.{fine, refused, or_else}
use Rattle.plan.specs.declared.Step.{Step}

-- "The last table is released if every cell is clear and none is OVER."
abbrev pub ReleaseIsLast : Type 0
ReleaseIsLast = (plan : List Step) (supply : Supply) (table : Table) → (evaluate plan supply).outcome ≡ release table
    → (table ≡ top (stack_left supply [] plan)) × (check_release table ≡ fine)

-- a refusal at a step is that of its check on the stack that the steps before it leave, and else 34: "after 31"
abbrev pub StepRefuses : Type 0
StepRefuses = (supply : Supply) (earlier : List Step) (step : Step) (later : List Step) (number row column : ℕ)
    → (evaluate (earlier ++ (step ∷ later)) supply).outcome ≡ refuse number (length earlier) row column
    → let stack = stack_left supply [] earlier in
    let left = supply_left supply [] earlier in
    or_else (check step (length left.draws) (map grid stack)) (too_many step (make step left stack)) ≡ refused number row column

-- 35 and 36: "Step = number of steps.": a refusal there is that of the last table
abbrev pub ReleaseRefuses : Type 0
ReleaseRefuses = (plan : List Step) (supply : Supply) (number row column : ℕ) → (evaluate plan supply).outcome ≡ refuse number (length plan) row column
    → check_release (top (stack_left supply [] plan)) ≡ refused number row column

-- "A run's refusal .. and a release, write the trace lines of the finished steps": a refusal those of the steps before it, a release all
abbrev pub TraceLength : Type 0
TraceLength = (plan : List Step) (supply : Supply)
    → ((table : Table) → (evaluate plan supply).outcome ≡ release table → length (evaluate plan supply).trace ≡ length plan)
    × ((number step row column : ℕ) → (evaluate plan supply).outcome ≡ refuse number step row column → length (evaluate plan supply).trace ≡ step)
