-- The demands of a call of `cilunovay_check`. It is lent one slice, for the answer, of at least 2 elements.
use Rattle.std.specs.Prelude.{ℕ, ◌≤◌, ◌<◌, ◌≡◌, List, ◌∷◌, length, drop}
use Rattle.container.specs.Check.{check_input}
use Rattle.input.specs.Verdict.{accepted, rejected}
use Rattle.call_demands.specs.CallMemory.{RestKept}
use Rattle.call_demands.specs.Calls.{CheckCall, check_called, check_call}

-- ---- demand 1, lent memory

-- a slice that is too short gives 1, and stays as it is
abbrev pub CheckShortKeepsAll : Type 0
CheckShortKeepsAll = (bytes answer : List ℕ) → length answer < 2 → check_call bytes answer ≡ check_called 1 answer

-- else it begins with the number returned, and what lies past its first 2 elements is as it was
abbrev pub CheckKeepsRest : Type 0
CheckKeepsRest = (bytes answer : List ℕ) → RestKept 2 answer (check_call bytes answer).number (check_call bytes answer).answer

-- ---- demand 2, accuracy: the number and the place are those of the checks. Demand 3: all accepted containers give the same call.

abbrev pub CheckAccepts : Type 0
CheckAccepts = (bytes answer : List ℕ) → 2 ≤ length answer → check_input bytes ≡ accepted → check_call bytes answer ≡ check_called 0 (0 ∷ 0 ∷ drop 2 answer)

abbrev pub CheckRefuses : Type 0
CheckRefuses = (bytes answer : List ℕ) → 2 ≤ length answer → (number place : ℕ) → check_input bytes ≡ rejected number place
    → check_call bytes answer ≡ check_called number (number ∷ place ∷ drop 2 answer)

-- why a call tells what it tells: 0 for an accepted container, 11 to 20 for a refusal, 1 for a slice too short, and no other
pub data Checked (bytes answer : List ℕ) (call : CheckCall) : Type 0 where
  accepts : 2 ≤ length answer → call ≡ check_called 0 (0 ∷ 0 ∷ drop 2 answer) → check_input bytes ≡ accepted → Checked bytes answer call
  refuses : {number place : ℕ} → 2 ≤ length answer → call ≡ check_called number (number ∷ place ∷ drop 2 answer) → check_input bytes ≡ rejected number place
      → 11 ≤ number → number ≤ 20 → Checked bytes answer call
  short : length answer < 2 → call.number ≡ 1 → Checked bytes answer call

abbrev pub CheckMeans : Type 0
CheckMeans = (bytes answer : List ℕ) → Checked bytes answer (check_call bytes answer)
