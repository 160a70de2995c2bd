-- The steps of a plan part.
use Rattle.std.specs.Prelude.{ℕ, cond, List, Option, None, ltb}
use Rattle.plan.specs.declared.Step.{Step}
use Rattle.plan_part.specs.PlanPart.{step_count}
use Rattle.records.specs.Record.{fields_at, step_of}

-- the step at an index of the plan, if the plan has so many
unfoldable pub step_at : List ℕ → ℕ → Option Step
step_at part step = cond (ltb step (step_count part)) (step_of (fields_at part step)) None
