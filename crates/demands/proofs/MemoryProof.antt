-- Demand 1 holds of the monitor; `short-keeps-all` stands in Runs and `lengths-kept` in LengthsProof. Assumes nothing.
use Prim.Native.Nat.{ℕ}
use mathlib.Core.Path.{◌≡◌, refl}
use mathlib.Core.Logic.{◌≢◌}
use native.Mathlib.Omega.{arith}
use lib.IntN.{pos}
use Rattle.plan.specs.Evaluate.{Outcome, release, refuse}
use Rattle.demands.specs.Answers.{released, refused_input}
use Rattle.demands.specs.Given.{year_given}
use Rattle.demands.specs.Memory.{RefusalKeepsOutput, InputRefusalKeepsAll, BegunLeavesZero}
use Rattle.demands.specs.Monitor.{run_outcome, answer_of, rows_out, text_out, written}
use Rattle.demands.proofs.Runs.{begun-run, by_cases}
use Rattle.demands.proofs.Slices.{filled-get, filled-past}

-- the evaluation gives no refusal of the input
pub never-input : (o : Outcome) {number place : ℕ} → answer_of o ≡ refused_input number place → ⊥
never-input (release table) e = let z : ◌≡◌ {A = ℕ} 0 1 = cc in omega arith
never-input (refuse number step row column) e = let z : ◌≡◌ {A = ℕ} 0 1 = cc in omega arith

pub input-refusal-keeps-all : InputRefusalKeepsAll
input-refusal-keeps-all given lent number place =
    by_cases (year_given given) given lent refl (λ run. run.answer ≡ refused_input number place → run.left ≡ lent) (λ short e. refl) (λ n p long check e. refl)
    (λ begun e. absurd (never-input (run_outcome (year_given given) given lent) e))

pub refusal-keeps-output : RefusalKeepsOutput
refusal-keeps-output given lent =
    by_cases (year_given given) given lent refl
    (λ run. ((rows columns bytes : ℕ) → run.answer ≢ released rows columns bytes) → (run.left.output ≡ lent.output) × (run.left.text ≡ lent.text))
    (λ short other. (refl, refl)) (λ n p long check other. (refl, refl)) (λ begun. by-outcome (run_outcome (year_given given) given lent))
  where
    by-outcome : (o : Outcome) → ((rows columns bytes : ℕ) → answer_of o ≢ released rows columns bytes)
        → (written (rows_out o) lent.output ≡ lent.output) × (written (text_out o) lent.text ≡ lent.text)
    by-outcome (release table) other = absurd (other _ _ _ refl)
    by-outcome (refuse number step row column) other = (refl, refl)

pub begun-leaves-zero : BegunLeavesZero
begun-leaves-zero year given lent b = rw (begun-run year given lent b) (record {
  values-zero = filled-get 8192 (pos 0) lent.values;
  values-past = filled-past 8192 (pos 0) lent.values;
  labels-zero = filled-get 8192 0 lent.labels;
  labels-past = filled-past 8192 0 lent.labels;
  marks-zero = filled-get 1024 0 lent.marks;
  marks-past = filled-past 1024 0 lent.marks;
})
