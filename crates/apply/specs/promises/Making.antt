-- The new cell that APPLY makes, in work memory.
use Rattle.std.specs.Prelude.{ℕ, List, ℤ}
use Rattle.label_discharge.specs.Discharge.{transform_answer}
use Rattle.extension.specs.promises.Labels.{label_left}
use Rattle.operand.specs.promises.Operands.{operand_at}
use Rattle.plan.specs.Numbers.{transform_code, digits_taken}
use Rattle.plan.specs.declared.Transform.{Transform}
use Rattle.plan.specs.declared.Transform.TheVariants.{Add, Sub, Cut, Band}
use Rattle.arithmetic.specs.Arithmetic.{plus, minus, cut, band}

-- its value, of the first operand and the values of its row
abbrev pub value_at : ℤ → List ℤ → Transform → ℤ
value_at first row (Add operand) = plus first (operand_at row 0 operand)
value_at first row (Sub operand) = minus first (operand_at row 0 operand)
value_at first row (Cut digits) = cut digits first
value_at first row (Band width) = band width first

-- its label, of the first operand's
abbrev pub label_at : ℕ → Transform → ℕ
label_at word transform = label_left word (transform_answer word (transform_code transform) (digits_taken transform))
