-- The widths on the stack of the plan check. Assumes nothing.
use Prim.Native.Nat.{ℕ, ◌≤◌}
use mathlib.Core.Path.{◌≡◌, refl}
use mathlib.Core.Bool.{Bool, true, false, cond}
use mathlib.Core.List.{List}
use lib.ListN.{get_or}
use borrow.Author.Tests.{le-leb}
use Rattle.std.specs.Prelude.{Some, None}
use Rattle.widths.specs.promises.Widths.{made_width}
use Rattle.plan.specs.declared.Step.{Step}
use Rattle.plan_check.specs.promises.Stack.{made_on}
use Rattle.widths.proofs.Laws.{two-looked-at}

-- what a step makes, by the two tables on top
pub width_is : (step : Step) (tables stack : List ℕ) (left right : ℕ) → left ≡ get_or stack 1 0 → right ≡ get_or stack 0 0 → left ≤ 8 → right ≤ 8
    → made_width step tables left right ≡ made_on step tables stack
width_is step tables stack left right el er h k =
    let two = two-looked-at step tables stack in
    rw (two.0, two.1, ← el, ← er, le-leb left 8 h, le-leb right 8 k)

-- so a step that makes columns is placed, and makes so many
pub columns-placed : (b : Bool) (m : ℕ) {n : ℕ} → cond b (Some m) None ≡ Some n → (b ≡ true) × (n ≡ m)
columns-placed true m e = (refl, cc)
columns-placed false m e = (cc, cc)

pub misplaced : (b : Bool) (m : ℕ) → cond b (Some m) None ≡ None → b ≡ false
misplaced true m e = cc
misplaced false m e = refl
