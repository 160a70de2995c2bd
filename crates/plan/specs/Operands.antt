-- The second operand of FILTER and APPLY. "c = 0: against the constant; c = 1: against column d."
use Rattle.std.specs.Prelude.{ℤ}
use Rattle.plan.specs.Table.{Row, cell_at}
use Rattle.plan.specs.declared.Operand.{Operand}
use Rattle.plan.specs.declared.Operand.TheVariants.{Constant, Column}

abbrev pub operand_value : Operand → Row → ℤ
operand_value (Constant value) row = value
operand_value (Column column) row = (cell_at column row).value
