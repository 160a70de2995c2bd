-- The second operand of FILTER and APPLY, in memory.
use Rattle.std.specs.Prelude.{ℕ, ◌+◌, List, ℤ, pos, get_or}
use Rattle.plan.specs.declared.Operand.{Operand}
use Rattle.plan.specs.declared.Operand.TheVariants.{Constant, Column}

-- in the row whose first value stands at a place
abbrev pub operand_at : List ℤ → ℕ → Operand → ℤ
operand_at values from (Constant value) = value
operand_at values from (Column column) = get_or values (from + column) (pos 0)
