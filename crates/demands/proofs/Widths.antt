-- The columns along a plan: those of a step's table are those that the plan's check counts. Assumes nothing.
use Prim.Native.Nat.{ℕ, zero, suc}
use mathlib.Core.Path.{◌≡◌, refl, sym, ap₂}
use mathlib.Core.List.{List, [], ◌∷◌}
use lib.ListN.{get_or, drop, get_or-map}
use Rattle.accepted.specs.Accepted.{Placed}
use Rattle.memory.specs.promises.Steps.{widths_of}
use Rattle.plan.specs.Apply.{applied}
use Rattle.plan.specs.Filter.{filtered}
use Rattle.plan.specs.Group.{grouped}
use Rattle.plan.specs.Join.{joined}
use Rattle.plan.specs.Keep.{kept}
use Rattle.plan.specs.Noise.{with_noise}
use Rattle.plan.specs.Scan.{scanned}
use Rattle.plan.specs.Steps.{takes, make}
use Rattle.plan.specs.Supply.{Supply}
use Rattle.plan.specs.Table.{Table, no_table}
use Rattle.plan.specs.Union.{united}
use Rattle.plan.specs.Widths.{made_columns}
use Rattle.plan.specs.declared.Step.{Step}
use Rattle.plan.specs.declared.Step.TheVariants.{Scan, Union, Join, Filter, Keep, Apply, Group, Noise}

width-at : (n : ℕ) (stack : List Table) → get_or (widths_of stack) n 0 ≡ (get_or stack n no_table).columns
width-at n stack = get_or-map (λ table. table.columns) stack n no_table

pub made-columns : (step : Step) (supply : Supply) (stack : List Table) → (make step supply stack).columns ≡ made_columns step (widths_of supply.tables) (widths_of stack)
unfolding make made_columns with_noise scanned united joined filtered kept applied grouped
made-columns (Scan table) supply stack = sym (width-at table supply.tables)
made-columns Union supply stack = sym (width-at 1 stack)
made-columns (Join left right) supply stack = rw (width-at 1 stack, width-at 0 stack)
made-columns (Filter column comparison operand) supply stack = sym (width-at 0 stack)
made-columns (Keep mask) supply stack = rw (width-at 0 stack)
made-columns (Apply column transform) supply stack = rw (width-at 0 stack)
made-columns (Group keys aggregate column) supply stack = rw (width-at 0 stack)
made-columns (Noise column) supply stack = rw (width-at 0 stack)

pub widths-drop : (n : ℕ) (stack : List Table) → drop n (widths_of stack) ≡ widths_of (drop n stack)
widths-drop zero stack = refl
widths-drop (suc n) [] = refl
widths-drop (suc n) (table ∷ stack) = widths-drop n stack

-- the rest of a placed plan is placed on the stack after its first step
pub placed-after : (step : Step) (later : List Step) (supply : Supply) (stack : List Table) → Placed (widths_of supply.tables) (widths_of stack) (step ∷ later)
    → Placed (widths_of supply.tables) (widths_of (make step supply stack ∷ drop (takes step) stack)) later
placed-after step later supply stack p =
    let after : made_columns step (widths_of supply.tables) (widths_of stack) ∷ drop (takes step) (widths_of stack) ≡ widths_of (make step supply stack ∷ drop (takes step) stack)
    = ap₂ ◌∷◌ (sym (made-columns step supply stack)) (widths-drop (takes step) stack) in
    rw after at p.3
