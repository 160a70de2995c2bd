-- The laws of the tables that steps take off the stack. Assumes nothing.
use Prim.Native.Nat.{ℕ, ◌+◌, ◌≤◌, ◌<◌}
use mathlib.Core.Path.{◌≡◌, refl}
use mathlib.Core.Bool.{true, cond}
use native.Mathlib.Omega.{arith}
use lib.Dec.{eqb, leb, ltb}
use borrow.Author.Tests.{leb-true, ltb-true}
use Rattle.plan.specs.Steps.{takes}
use Rattle.plan.specs.Widths.{enough_tables}
use Rattle.plan.specs.declared.Step.{Step}
use Rattle.plan.specs.declared.Step.TheVariants.{Scan, Union, Join, Filter, Keep, Apply, Group, Noise}

pub enough-is : (step : Step) (depth : ℕ) → enough_tables step depth ≡ cond (eqb (takes step) 0) (ltb depth 3) (leb (takes step) depth)
unfolding enough_tables
enough-is step depth = refl

-- a step with enough tables takes those that there are, and leaves at most two
pub enough-room : (step : Step) (depth : ℕ) → depth ≤ 3 → enough_tables step depth ≡ true → (takes step ≤ depth) × (depth < takes step + 3)
unfolding enough_tables
enough-room (Scan table) depth h e = omega (arith, ltb-true depth 3 e)
enough-room Union depth h e = omega (arith, leb-true 2 depth e)
enough-room (Join left right) depth h e = omega (arith, leb-true 2 depth e)
enough-room (Filter column comparison operand) depth h e = omega (arith, leb-true 1 depth e)
enough-room (Keep mask) depth h e = omega (arith, leb-true 1 depth e)
enough-room (Apply column transform) depth h e = omega (arith, leb-true 1 depth e)
enough-room (Group keys aggregate column) depth h e = omega (arith, leb-true 1 depth e)
enough-room (Noise column) depth h e = omega (arith, leb-true 1 depth e)
