-- The check of a plan's steps, at one step. Assumes nothing.
use Prim.Native.Nat.{ℕ, suc, ◌+◌, ◌-◌, ◌*◌, ◌≤◌, ◌<◌}
use mathlib.Core.Path.{◌≡◌, ◌∙◌}
use mathlib.Core.Bool.{true, false, not}
use mathlib.Core.List.{List, [], ◌∷◌}
use native.Mathlib.Nat.{sub-zero}
use native.Mathlib.Numerals.{add-one}
use native.Mathlib.Omega.{arith}
use lib.Dec.{eqb}
use lib.ListN.{length, drop}
use Rattle.std.specs.Prelude.{Some, None}
use Rattle.input.specs.Verdict.{rejected, reject_if}
use Rattle.plan.specs.Steps.{takes}
use Rattle.plan.specs.Widths.{enough_tables, placed, made_columns}
use Rattle.plan.specs.declared.Step.{Step}
use Rattle.plan_check.specs.PlanCheck.{check_found, check_steps}
use Rattle.records.specs.Record.{fields_at, step_of}
use Rattle.input.proofs.Laws.{one_left}

-- the steps before one are as they should be: the widths of the tables that they leave, and what is left of the check
pub record Steps (part : List ℕ) (at : ℕ) (tables : List ℕ) (count step : ℕ) (stack : List ℕ) : Type 0 where
  pub done : step ≤ count
  pub left : check_steps part at 0 count tables [] ≡ check_steps part at step (count - step) tables stack

-- the stack is empty at first
pub begin : (part : List ℕ) (at : ℕ) (tables : List ℕ) (count : ℕ) → Steps part at tables count 0 []
begin part at tables count = record { done = omega arith; left = rw (sub-zero count) }

module _ {part : List ℕ} {at : ℕ} {tables : List ℕ} {count step : ℕ} {stack : List ℕ} (p : Steps part at tables count step stack) where
  step_left : step < count
      → check_steps part at 0 count tables []
      ≡ check_found (step_of (fields_at part step)) (at + 16 * step) tables stack
      (λ next. check_steps part at (suc step) (count - suc step) tables (made_columns next tables stack ∷ drop (takes next) stack))
  step_left h = p.left ∙ rw (one_left step count h)

  pub no_step : step < count → step_of (fields_at part step) ≡ None → rejected 17 (at + 16 * step) ≡ check_steps part at 0 count tables []
  no_step h e = rw (step_left h, e)

  module _ (next : Step) (h : step < count) (e : step_of (fields_at part step) ≡ Some next) where
    pub few-tables : enough_tables next (length stack) ≡ false → rejected 18 (at + 16 * step) ≡ check_steps part at 0 count tables []
    few-tables f = rw (step_left h, e, f)

    module _ (enough : enough_tables next (length stack) ≡ true) where
      pub not-placed : placed next tables stack ≡ false → rejected 19 (at + 16 * step) ≡ check_steps part at 0 count tables []
      not-placed f = rw (step_left h, e, enough, f)

      pub keep : placed next tables stack ≡ true → (after : List ℕ) → after ≡ made_columns next tables stack ∷ drop (takes next) stack
          → Steps part at tables count (step + 1) after
      keep t after q = record { done = omega arith; left = rw (step_left h, e, enough, t, add-one step, q) }

  pub ended : count ≤ step → check_steps part at 0 count tables [] ≡ reject_if (not (eqb (length stack) 1)) 18 (at + 16 * step)
  ended h = let z : count - step ≡ 0 = omega arith in rw (p.left, z)
