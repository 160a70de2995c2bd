-- Demand 1, of a call of `cilunovay_run`. It is lent a further slice, for the answer, of at least 4 elements.
use Rattle.std.specs.Prelude.{ℕ, ◌≤◌, ◌<◌, ◌≡◌, List, ◌≢◌, length, get_or, drop}
use Rattle.call_demands.specs.Calls.{RunCall, run_called, run_call}
use Rattle.demands.specs.Given.{Given}
use Rattle.demands.specs.Lent.{Lent}
use Rattle.demands.specs.Memory.{Zeroed, SameLengths}

-- a slice for the answer that is too short gives 1, and nothing lent changes
abbrev pub CallShortKeepsAll : Type 0
CallShortKeepsAll = (given : Given) (lent : Lent) (answer : List ℕ) → length answer < 4 → run_call given lent answer ≡ run_called 1 lent answer

-- What a call leaves in the six slices of the run, by the number that it returns: 1 and 11 to 22 change none of them, no refusal alters the
-- output or the text, and 0, 31 to 37 and 51 leave work memory zero.
pub record Leaves (lent : Lent) (call : RunCall) : Type 0 where
  pub all-kept : 1 ≤ call.number → call.number ≤ 22 → call.left ≡ lent
  pub output-kept : call.number ≢ 0 → (call.left.output ≡ lent.output) × (call.left.text ≡ lent.text)
  pub zeroed-by-release : call.number ≡ 0 → Zeroed lent call.left
  pub zeroed-by-refusal : 31 ≤ call.number → Zeroed lent call.left
  pub lengths : SameLengths lent call.left

abbrev pub CallLeaves : Type 0
CallLeaves = (given : Given) (lent : Lent) (answer : List ℕ) → Leaves lent (run_call given lent answer)

-- The slice for the answer begins with the number returned, where it has the `count` elements of an answer; what lies past those is as it was.
pub record RestKept (count : ℕ) (answer : List ℕ) (number : ℕ) (left : List ℕ) : Type 0 where
  pub first : count ≤ length answer → (d : ℕ) → get_or left 0 d ≡ number
  pub past : drop count left ≡ drop count answer
  pub same_length : length left ≡ length answer

abbrev pub CallKeepsRest : Type 0
CallKeepsRest = (given : Given) (lent : Lent) (answer : List ℕ) → RestKept 4 answer (run_call given lent answer).number (run_call given lent answer).answer
