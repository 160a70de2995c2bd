-- The step of a record that is there. Assumes nothing.
use Prim.Native.Nat.{ℕ, ◌<◌}
use mathlib.Core.Path.{◌≡◌}
use mathlib.Core.List.{List}
use borrow.Author.Tests.{lt-ltb}
use Rattle.plan_part.specs.PlanPart.{step_count}
use Rattle.plan_part.specs.promises.Steps.{step_at}
use Rattle.records.specs.Record.{fields_at, step_of}

pub step-there : (part : List ℕ) (step : ℕ) → step < step_count part → step_at part step ≡ step_of (fields_at part step)
unfolding step_at
step-there part step h = rw (lt-ltb step (step_count part) h)
