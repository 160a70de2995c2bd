-- The laws of the columns that steps need and make. Assumes nothing.
use Prim.Native.Nat.{ℕ, zero, suc, ◌+◌, ◌/◌, ◌%◌, ◌^◌, ◌≤◌, ◌<◌}
use mathlib.Core.Path.{◌≡◌, refl, sym, ap}
use mathlib.Core.Bool.{Bool, true, false, cond, and-eq-true_iff}
use mathlib.Core.List.{List, [], ◌∷◌}
use native.Mathlib.Nat.{mod-lt}
use native.Mathlib.Omega.{arith}
use lib.Dec.{eqb, leb, lit<}
use lib.ListN.{get_or}
use borrow.Author.Tests.{leb-true}
use Rattle.plan.specs.Masks.{in_mask}
use Rattle.plan.specs.Keep.{kept_count}
use Rattle.plan.specs.Widths.{columns_exist, made_columns, placed}
use Rattle.plan.specs.declared.Step.{Step}
use Rattle.plan.specs.declared.Step.TheVariants.{Scan, Union, Join, Filter, Keep, Apply, Group, Noise}

pub placed-parts : (step : Step) (tables stack : List ℕ) → placed step tables stack ≡ true
    → (columns_exist step tables stack ≡ true) × (made_columns step tables stack ≤ 8)
placed-parts step tables stack e =
    let b = (and-eq-true_iff (columns_exist step tables stack) (leb (made_columns step tables stack) 8)).0 e in
    (b.0, leb-true (made_columns step tables stack) 8 b.1)

-- a step looks at two tables of the stack
abbrev pub top_two : List ℕ → List ℕ
top_two stack = get_or stack 0 0 ∷ get_or stack 1 0 ∷ []

pub two-looked-at : (step : Step) (tables stack : List ℕ)
    → (columns_exist step tables stack ≡ columns_exist step tables (top_two stack)) × (made_columns step tables stack ≡ made_columns step tables (top_two stack))
unfolding columns_exist made_columns
two-looked-at (Scan table) tables stack = (refl, refl)
two-looked-at Union tables stack = (refl, refl)
two-looked-at (Join left right) tables stack = (refl, refl)
two-looked-at (Filter column comparison operand) tables stack = (refl, refl)
two-looked-at (Keep mask) tables stack = (refl, refl)
two-looked-at (Apply column transform) tables stack = (refl, refl)
two-looked-at (Group keys aggregate column) tables stack = (refl, refl)
two-looked-at (Noise column) tables stack = (refl, refl)

one-le : (t : Bool) → cond t 1 0 ≤ 1
one-le true = omega arith
one-le false = omega arith

pub kept-le : (mask width : ℕ) → kept_count mask width ≤ width
kept-le mask zero = omega arith
kept-le mask (suc width) = omega (arith, kept-le mask width, one-le (in_mask mask width))

digit : (d : ℕ) → d < 2 → d ≡ cond (eqb d 1) 1 0
digit zero h = refl
digit (suc zero) h = refl
digit (suc (suc d)) h = absurd (omega arith)

-- one column more
pub kept_more : (mask column : ℕ) → kept_count mask (suc column) ≡ kept_count mask column + mask / 2 ^ column % 2
unfolding in_mask
kept_more mask column = ap (λ (d : ℕ). kept_count mask column + d) (sym (digit _ (mod-lt _ (lit< tt))))
