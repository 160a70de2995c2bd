-- What holds before each step of an accepted container's plan.
use Rattle.std.specs.Prelude.{◌≡◌, true}
use Rattle.accepted.specs.Accepted.{operation_exists}
use Rattle.input.specs.Verdict.{accepted}
use Rattle.cells.specs.promises.Labelled.{Labelled}
use Rattle.cells.specs.promises.Work.{Memory}
use Rattle.memory.specs.promises.Stack.{stack_in}
use Rattle.memory.specs.promises.Steps.{fits_in}
use Rattle.live_tables.specs.declared.Stack.{Stack}
use Rattle.plan.specs.Table.{Each}
use Rattle.plan.specs.declared.Step.{Step}
use Rattle.demands.specs.Given.{Given, year_given, check_given, supply_given}

-- the step fits the stack, its operation exists, and every label of the stack is well-formed
pub record Steady (given : Given) (step : Step) (work : Memory) (stack : Stack) : Type 0 where
  pub accepted-is : check_given given ≡ accepted
  pub fits-is : fits_in step (supply_given (year_given given) given) work stack ≡ true
  pub exists : operation_exists step ≡ true
  pub labelled : Each Labelled (stack_in work stack)
