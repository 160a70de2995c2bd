-- What the three calls do is what `run_call`, `check_call` and `convert_call` say. Assumes nothing.
use Prim.Native.Nat.{ℕ, ◌≤◌, ◌<◌}
use mathlib.Core.Path.{◌≡◌, refl, sym, ap, ap₂, ◌∙◌}
use mathlib.Core.List.{List, ◌++◌}
use native.Mathlib.Omega.{arith}
use lib.ListN.{length, get_or, take, drop}
use lib.Seq.{length-take-le}
use Rattle.container.specs.Check.{check_input}
use Rattle.input.specs.Verdict.{InputVerdict, accepted, rejected}
use Rattle.demands.specs.Answers.{Told, released, refused_input, refused_state}
use Rattle.call_demands.specs.Calls.{numbers_of, run_called, run_told, run_call, check_numbers_of, check_called, check_told, check_call, convert_numbers_of, convert_called, convert_told, convert_call}
use Rattle.demands.specs.Given.{Given}
use Rattle.demands.specs.Lent.{Lent}
use Rattle.demands.specs.Monitor.{Run, ended, written, monitor}
use Rattle.call_demands.proofs.CallProof.{long-call, call-short-keeps-all}
use Rattle.call_demands.proofs.CheckProof.{long-check, check-short-keeps-all}
use Rattle.call_demands.proofs.ConvertProof.{long-convert, convert-short-keeps-all}
use Rattle.conversion.specs.Converting as converting

-- ---- numbers at the start of a slice

-- copied over its first elements
pub copied : {count : ℕ} {numbers head : List ℕ} (answer : List ℕ) → count ≤ length answer → head ≡ numbers → length head ≡ length (take count answer)
    → head ++ drop count answer ≡ written numbers answer
copied {count} {numbers} {head} answer h e n =
    let here : length numbers ≡ length head = ap length (sym e) in
    let counted : count ≡ length numbers = omega (arith, here, n, length-take-le count answer h) in
    ap₂ (λ (l : List ℕ) (k : ℕ). l ++ drop k answer) e counted

module _ (given : Given) (lent : Lent) (answer : List ℕ) where
  pub run_short : length answer < 4 → run_called 1 lent answer ≡ run_call given lent answer
  run_short h = sym (call-short-keeps-all given lent answer h)

  pub run_long : {told : Told} {left : Lent} {numbers : List ℕ} → 4 ≤ length answer → ended told left ≡ monitor given lent → numbers ≡ numbers_of told
      → run_called (get_or numbers 0 0) left (written numbers answer) ≡ run_call given lent answer
  run_long {told} {left} {numbers} h e n =
      ap (λ (l : List ℕ). run_called (get_or l 0 0) left (written l answer)) n
      ∙ ap (λ (run : Run). run_told run answer) e
      ∙ sym (long-call given lent answer h)

module _ (bytes answer : List ℕ) where
  pub check-short : length answer < 2 → check_called 1 answer ≡ check_call bytes answer
  check-short h = sym (check-short-keeps-all bytes answer h)

  pub check-long : {verdict : InputVerdict} {numbers : List ℕ} → 2 ≤ length answer → verdict ≡ check_input bytes → numbers ≡ check_numbers_of verdict
      → check_called (get_or numbers 0 0) (written numbers answer) ≡ check_call bytes answer
  check-long {verdict} {numbers} h e n =
      ap (λ (l : List ℕ). check_called (get_or l 0 0) (written l answer)) n
      ∙ ap (λ (v : InputVerdict). check_told (check_numbers_of v) answer) e
      ∙ sym (long-check bytes answer h)

module _ (bytes new offsets answer : List ℕ) where
  pub convert-short : length answer < 2 → convert_called 1 new offsets answer ≡ convert_call bytes new offsets answer
  convert-short h = sym (convert-short-keeps-all bytes new offsets answer h)

  pub convert-long : {told : converting.ConversionVerdict} {converted changed numbers : List ℕ} → 2 ≤ length answer
      → converting.ended told converted changed ≡ converting.conversion bytes new offsets → numbers ≡ convert_numbers_of told
      → convert_called (get_or numbers 0 0) converted changed (written numbers answer) ≡ convert_call bytes new offsets answer
  convert-long {told} {converted} {changed} {numbers} h e n =
      ap (λ (l : List ℕ). convert_called (get_or l 0 0) converted changed (written l answer)) n
      ∙ ap (λ (made : converting.Conversion). convert_told made answer) e
      ∙ sym (long-convert bytes new offsets answer h)
