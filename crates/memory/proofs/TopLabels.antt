-- Live tables whose labels are well-formed. Assumes nothing.
use Prim.Native.Nat.{ℕ}
use mathlib.Core.Path.{◌≡◌}
use mathlib.Core.Bool.{true}
use Rattle.cells.specs.promises.Labelled.{Labelled}
use Rattle.cells.specs.promises.Work.{Memory}
use Rattle.live_tables.specs.declared.Stack.{Stack}
use Rattle.memory.specs.promises.Stack.{stack_in, top_formed}
use Rattle.plan.specs.Table.{top, Each}
use Rattle.cells.proofs.LabelledTables.{column-formed, top-labelled}

-- a column of the last one pushed
pub top-formed : (column : ℕ) (memory : Memory) (stack : Stack) → Each Labelled (stack_in memory stack) → top_formed column memory stack ≡ true
top-formed column memory stack e = column-formed column (top (stack_in memory stack)).rows (top-labelled (stack_in memory stack) e)
