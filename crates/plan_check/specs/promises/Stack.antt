-- What a step makes on the stack of the plan check.
use Rattle.std.specs.Prelude.{ℕ, cond, List, Option, Some, None}
use Rattle.plan.specs.Widths.{placed, made_columns}
use Rattle.plan.specs.declared.Step.{Step}

-- the columns of the table that a step makes on a stack, if its tables and columns exist there and it makes at most 8
abbrev pub made_on : Step → List ℕ → List ℕ → Option ℕ
made_on step tables stack = cond (placed step tables stack) (Some (made_columns step tables stack)) None
