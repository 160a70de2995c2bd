-- What APPLY asks beyond what every step asks: an operation that exists, and labels that are labels. The label library answers then.
use Rattle.std.specs.Prelude.{ℕ, Bool, ◌&&◌}
use Rattle.cells.specs.promises.Work.{Memory}
use Rattle.operations.specs.promises.Operations.{operation_fits}
use Rattle.live_tables.specs.declared.Stack.{Stack}
use Rattle.memory.specs.promises.Stack.{top_formed}
use Rattle.memory.specs.promises.Steps.{fits_in}
use Rattle.plan.specs.Supply.{Supply}
use Rattle.plan.specs.declared.Step.TheVariants.{Apply}
use Rattle.plan.specs.declared.Transform.{Transform}

-- the operation exists, and every label of the column in the top table is well-formed
abbrev pub operands_fit : ℕ → Transform → Memory → Stack → Bool
operands_fit column transform memory stack = operation_fits transform && top_formed column memory stack

abbrev pub apply_fits : ℕ → Transform → Supply → Memory → Stack → Bool
apply_fits column transform supply memory stack = fits_in (Apply column transform) supply memory stack && operands_fit column transform memory stack
