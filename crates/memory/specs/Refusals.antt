-- The number, row and column that documents 01 and 02 give each refusal of a step.
use Rattle.std.specs.Prelude.{ℕ}
use Rattle.memory.specs.declared.Refusal.{Refusal}
use Rattle.memory.specs.declared.Refusal.TheVariants.{NotClear, Forbidden, OperandNotClear, TooMany, NoDraw}

abbrev pub refusal_tells : {A : Type 0} → (ℕ → ℕ → ℕ → A) → Refusal → A
refusal_tells tell (NotClear at) = tell 31 at.row at.column
refusal_tells tell (Forbidden at) = tell 32 at.row at.column
refusal_tells tell (OperandNotClear at) = tell 33 at.row at.column
refusal_tells tell TooMany = tell 34 256 0
refusal_tells tell (NoDraw at) = tell 37 at.row at.column
