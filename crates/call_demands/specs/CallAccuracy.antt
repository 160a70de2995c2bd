-- Demands 2 and 3, of a call of `cilunovay_run`: the number that it returns, and the four in the slice for the answer, are those of the evaluation.
use Rattle.std.specs.Prelude.{ℕ, ◌≤◌, ◌<◌, ◌≡◌, true, false, List, [], ◌∷◌, ◌++◌, length, get_or, drop}
use Rattle.input.specs.Verdict.{accepted, rejected}
use Rattle.plan.specs.Table.{flat, Table}
use Rattle.plan.specs.Evaluate.{release, refuse}
use Rattle.plan.specs.Trace.{flat_lines}
use Rattle.csv_text.specs.Text.{table_text}
use Rattle.demands.specs.Accuracy.{values_of, Released, Refused, RefusedInput}
use Rattle.call_demands.specs.Calls.{RunCall, run_call}
use Rattle.demands.specs.Given.{Given, check_given, plan_given, year_given}
use Rattle.demands.specs.Lent.{Lent, enough}
use Rattle.demands.specs.Monitor.{evaluation, Begun}
use Rattle.demands.specs.Secrecy.{AlikeInputs}

-- ---- from the evaluation to the call

-- the call returns the first of these four numbers, and they stand at the start of the slice for the answer
abbrev pub Tells : RunCall → List ℕ → List ℕ → Type 0
Tells call numbers answer = (call.number ≡ get_or numbers 0 0) × (call.answer ≡ numbers ++ drop 4 answer)

-- what the evaluation releases, where its text has room: 0, its rows, its columns and the bytes of its text, and its values and text in their
-- slices
abbrev pub CallReleases : Type 0
CallReleases = (year : ℕ) (given : Given) (lent : Lent) (answer : List ℕ) → 4 ≤ length answer → Begun year given lent → (table : Table)
    → (evaluation year given).outcome ≡ release table → length (table_text table) ≤ length lent.text
    → Tells (run_call given lent answer) (0 ∷ length table.rows ∷ table.columns ∷ length (table_text table) ∷ []) answer
    × ((run_call given lent answer).left.output ≡ values_of table ++ drop (length (flat table.rows)) lent.output)
    × ((run_call given lent answer).left.text ≡ table_text table ++ drop (length (table_text table)) lent.text)

-- what it refuses: the number, the step, the row and the column; 51 at the number of steps for a text without room; and 1 at zeros for another
-- slice that is too short
abbrev pub CallRefuses : Type 0
CallRefuses = (year : ℕ) (given : Given) (lent : Lent) (answer : List ℕ) → 4 ≤ length answer
    → (Begun year given lent → (number step row column : ℕ) → (evaluation year given).outcome ≡ refuse number step row column
    → Tells (run_call given lent answer) (number ∷ step ∷ row ∷ column ∷ []) answer)
    × (Begun year given lent → (table : Table) → (evaluation year given).outcome ≡ release table → length lent.text < length (table_text table)
    → Tells (run_call given lent answer) (51 ∷ length (plan_given given) ∷ 0 ∷ 0 ∷ []) answer)
    × (enough lent ≡ false → Tells (run_call given lent answer) (1 ∷ 0 ∷ 0 ∷ 0 ∷ []) answer)

-- what the checks refuse: the number and the byte offset
abbrev pub CallRefusesInput : Type 0
CallRefusesInput = (given : Given) (lent : Lent) (answer : List ℕ) → 4 ≤ length answer → enough lent ≡ true → (number place : ℕ)
    → check_given given ≡ rejected number place → Tells (run_call given lent answer) (number ∷ place ∷ 0 ∷ 0 ∷ []) answer

-- the trace lines of the finished steps
abbrev pub CallTraces : Type 0
CallTraces = (year : ℕ) (given : Given) (lent : Lent) (answer : List ℕ) → 4 ≤ length answer → Begun year given lent
    → (run_call given lent answer).left.trace ≡ flat_lines (evaluation year given).trace ++ drop (length (flat_lines (evaluation year given).trace)) lent.trace

-- ---- from the numbers told to the evaluation

-- Why a call tells what it tells: 0 for a release, 1 for a slice too short, 11 to 22 for the input, 31 to 37 and 51 for the state, and no other.
pub data Called (year : ℕ) (given : Given) (lent : Lent) (answer : List ℕ) (call : RunCall) : Type 0 where
  releases : {rows columns bytes : ℕ} → 4 ≤ length answer → Tells call (0 ∷ rows ∷ columns ∷ bytes ∷ []) answer
      → Released year given lent rows columns bytes call.left.output call.left.text → Called year given lent answer call
  refuses : {number step row column : ℕ} → 4 ≤ length answer → Tells call (number ∷ step ∷ row ∷ column ∷ []) answer → Refused year given lent number step row column
      → Called year given lent answer call
  refuses-input : {number place : ℕ} → 4 ≤ length answer → Tells call (number ∷ place ∷ 0 ∷ 0 ∷ []) answer → RefusedInput given lent number place
      → Called year given lent answer call
  answer-short : length answer < 4 → call.number ≡ 1 → Called year given lent answer call

abbrev pub CallMeans : Type 0
CallMeans = (year : ℕ) (given : Given) (lent : Lent) (answer : List ℕ) → year_given given ≡ year → Called year given lent answer (run_call given lent answer)

-- ---- demand 3

-- two inputs that differ only in the values of locked cells give the same call: number, slices of the run and slice for the answer
abbrev pub SecrecyOfCalls : Type 0
SecrecyOfCalls = (year : ℕ) (a b : Given) → check_given a ≡ accepted → check_given b ≡ accepted → AlikeInputs year a b → (lent : Lent) → enough lent ≡ true
    → (answer : List ℕ) → run_call a lent answer ≡ run_call b lent answer
