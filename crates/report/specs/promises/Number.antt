-- The number that a report of an input answers.
use Rattle.std.specs.Prelude.{◌≡◌, ℕ, ◌≤◌, true, List, length}
use Rattle.call_demands.specs.Calls.{run_call}
use Rattle.demands.specs.Given.{Given}
use Rattle.demands.specs.Lent.{Lent, enough}

-- the number of every call of `cilunovay_run` with slices of enough elements, and room for the longest text
abbrev pub CallNumber : Given → ℕ → Type 0
CallNumber given number = (lent : Lent) (answer : List ℕ) → enough lent ≡ true → 35097 ≤ length lent.text → 4 ≤ length answer
    → number ≡ (run_call given lent answer).number
