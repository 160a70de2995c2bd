-- The answer, the output and the text of a run, by what it comes to.
use Prim.Native.Nat.{ℕ}
use mathlib.Core.Path.{◌≡◌}
use mathlib.Core.List.{List}
use lib.IntN.{ℤ}
use Rattle.plan.specs.Evaluate.{Outcome}
use Rattle.demands.specs.Answers.{Told}
use Rattle.demands.specs.Monitor.{answer_of, rows_out, text_out, written}

-- of an output and a slice for the text that held `output` and `text` before, and hold `output₁` and `text₁` afterwards
pub record Ends (outcome : Outcome) (output : List ℤ) (text : List ℕ) (told : Told) (output₁ : List ℤ) (text₁ : List ℕ) : Type 0 where
  pub told_is : told ≡ answer_of outcome
  pub output-is : output₁ ≡ written (rows_out outcome) output
  pub text-is : text₁ ≡ written (text_out outcome) text
