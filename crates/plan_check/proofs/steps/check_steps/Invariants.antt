-- `plan_check::steps::check_steps` meets its contract. Assumes nothing.
use Rattle.plan_part.specs.PlanPart.{step_count}
use Rattle.plan_check.proofs.StepsLeft.{Steps}
use Rattle.plan_check.proofs.steps.check_steps.Given as goal

abbrev pub invariant-loop-step : goal.invariant-loop-step
invariant-loop-step l = Steps l.plan l.at l.tables (step_count l.plan) l.step l.stack
