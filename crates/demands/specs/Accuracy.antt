-- Demand 2, accuracy: every released row, trace line, text and refusal equals the evaluation of the plan by the rules. #108: "Accuracy is shown over both
-- years with the year as a parameter".
use Rattle.std.specs.Prelude.{ℕ, ◌*◌, ◌≤◌, ◌<◌, ◌≡◌, true, false, List, ◌++◌, map, ℤ, length, take, drop}
use Rattle.csv_text.specs.Text.{value_rows, table_text}
use Rattle.csv_reader.specs.Reader as reader
use Rattle.input.specs.Verdict.{rejected}
use Rattle.plan.specs.Table.{flat, Each, Shaped, Table}
use Rattle.plan.specs.Evaluate.{release, refuse}
use Rattle.plan.specs.Trace.{flat_lines}
use Rattle.value.specs.Range.{in_range}
use Rattle.demands.specs.Answers.{released, refused_input, refused_state}
use Rattle.demands.specs.Given.{Given, check_given, plan_given, year_given}
use Rattle.demands.specs.Lent.{Lent, enough}
use Rattle.demands.specs.Monitor.{evaluation, Begun, monitor}

-- a table's values, row by row
abbrev pub values_of : Table → List ℤ
values_of table = map (λ cell. cell.value) (flat table.rows)

-- the years: "0 as now, 1 for the floor"
abbrev pub BegunYears : Type 0
BegunYears = (year : ℕ) (given : Given) (lent : Lent) → Begun year given lent → year ≤ 1

-- ---- releases

-- what the evaluation releases is released where its text has room: row by row at the output's start, and as text at the start of its slice
abbrev pub ReleasedIsReleased : Type 0
ReleasedIsReleased = (year : ℕ) (given : Given) (lent : Lent) → Begun year given lent → (table : Table) → (evaluation year given).outcome ≡ release table
    → length (table_text table) ≤ length lent.text
    → ((monitor given lent).answer ≡ released (length table.rows) table.columns (length (table_text table)))
    × ((monitor given lent).left.output ≡ values_of table ++ drop (length (flat table.rows)) lent.output)
    × ((monitor given lent).left.text ≡ table_text table ++ drop (length (table_text table)) lent.text)

-- Why so many rows and columns are released with a text of so many bytes, and the output and the text's slice are what they are: the evaluation
-- releases a table of that size, every cell of it clear and in the value range; the output begins with its values, and the slice with its text,
-- and "reading it by the same grammar yields the rows in order"; the rest is as it was.
pub record Released (year : ℕ) (given : Given) (lent : Lent) (rows columns bytes : ℕ) (output : List ℤ) (text : List ℕ) : Type 0 where
  pub begun : Begun year given lent
  pub table : Table
  pub outcome : (evaluation year given).outcome ≡ release table
  pub as-many-rows : length table.rows ≡ rows
  pub as-many-columns : table.columns ≡ columns
  pub shaped : Shaped table
  pub clear : Each (λ row. Each (λ cell. (cell.label ≡ 0) × (in_range cell.value ≡ true)) row.cells) table.rows
  pub output-is : output ≡ values_of table ++ drop (rows * columns) lent.output
  pub as-many-bytes : length (table_text table) ≡ bytes
  pub text-is : text ≡ table_text table ++ drop bytes lent.text
  pub text-read : reader.read_text 1 (take bytes text) ≡ reader.table columns (value_rows table)

abbrev pub ReleaseMeans : Type 0
ReleaseMeans = (year : ℕ) (given : Given) (lent : Lent) (rows columns bytes : ℕ) → year_given given ≡ year
    → (monitor given lent).answer ≡ released rows columns bytes
    → Released year given lent rows columns bytes (monitor given lent).left.output (monitor given lent).left.text

-- ---- refusals because of the state

-- what the evaluation refuses is refused, with that number, at that place
abbrev pub RefusedIsRefused : Type 0
RefusedIsRefused = (year : ℕ) (given : Given) (lent : Lent) → Begun year given lent → (number step row column : ℕ) → (evaluation year given).outcome ≡ refuse number step row column
    → ((monitor given lent).answer ≡ refused_state number step row column) × ((monitor given lent).left.output ≡ lent.output)
    × ((monitor given lent).left.text ≡ lent.text)

-- what it releases is refused with 51 where the slice is shorter than its text, and only there
abbrev pub NoRoomIsRefused : Type 0
NoRoomIsRefused = (year : ℕ) (given : Given) (lent : Lent) → Begun year given lent → (table : Table) → (evaluation year given).outcome ≡ release table
    → length lent.text < length (table_text table)
    → ((monitor given lent).answer ≡ refused_state 51 (length (plan_given given)) 0 0) × ((monitor given lent).left.output ≡ lent.output)
    × ((monitor given lent).left.text ≡ lent.text)

-- Why there is a refusal with a number at a step, row and column: a slice is too short, which gives 1 at zeros; or the evaluation refuses so,
-- with 31 to 37; or it releases a table whose text is longer than its slice, which gives 51.
pub data Refused (year : ℕ) (given : Given) (lent : Lent) : ℕ → ℕ → ℕ → ℕ → Type 0 where
  short : enough lent ≡ false → Refused year given lent 1 0 0 0
  evaluated : {number step row column : ℕ} → Begun year given lent → (evaluation year given).outcome ≡ refuse number step row column
      → 31 ≤ number → number ≤ 37 → Refused year given lent number step row column
  no_room : {table : Table} → Begun year given lent → (evaluation year given).outcome ≡ release table → length lent.text < length (table_text table)
      → Refused year given lent 51 (length (plan_given given)) 0 0

abbrev pub RefusalMeans : Type 0
RefusalMeans = (year : ℕ) (given : Given) (lent : Lent) (number step row column : ℕ) → year_given given ≡ year
    → (monitor given lent).answer ≡ refused_state number step row column
    → Refused year given lent number step row column

-- ---- refusals because of the input

-- what the checks refuse is refused, with that number, at that place
abbrev pub InputIsChecked : Type 0
InputIsChecked = (given : Given) (lent : Lent) → enough lent ≡ true → (number place : ℕ) → check_given given ≡ rejected number place
    → (monitor given lent).answer ≡ refused_input number place

-- why there is a refusal with a number at a place: the checks refuse so, with 11 to 22
pub record RefusedInput (given : Given) (lent : Lent) (number place : ℕ) : Type 0 where
  pub long : enough lent ≡ true
  pub check : check_given given ≡ rejected number place
  pub from-11 : 11 ≤ number
  pub to-22 : number ≤ 22

abbrev pub InputRefusalMeans : Type 0
InputRefusalMeans = (given : Given) (lent : Lent) (number place : ℕ) → (monitor given lent).answer ≡ refused_input number place
    → RefusedInput given lent number place

-- ---- the trace

-- the trace lines of the finished steps stand at the trace's start
abbrev pub TraceIsTrace : Type 0
TraceIsTrace = (year : ℕ) (given : Given) (lent : Lent) → Begun year given lent
    → (monitor given lent).left.trace ≡ flat_lines (evaluation year given).trace ++ drop (length (flat_lines (evaluation year given).trace)) lent.trace
