-- The monitor: from what it is given and the lent slices to the answer and what the slices hold afterwards.
use Rattle.std.specs.Prelude.{ℕ, ◌≡◌, true, cond, List, [], ◌++◌, map, leb, ℤ, pos, length, drop}
use Rattle.input.specs.Verdict.{InputVerdict, accepted, rejected}
use Rattle.plan.specs.Table.{flat}
use Rattle.plan.specs.Evaluate.{Outcome, release, refuse, Result, evaluate}
use Rattle.plan.specs.Trace.{Line, flat_lines}
use Rattle.csv_text.specs.Text.{table_text}
use Rattle.zeros.specs.Zeros.{filled}
use Rattle.demands.specs.Answers.{Told, released, refused_input, refused_state}
use Rattle.demands.specs.Given.{Given, check_given, plan_given, year_given, supply_given}
use Rattle.demands.specs.Lent.{Lent, enough}

-- the evaluation of the plan under a rule year
unfoldable pub evaluation : ℕ → Given → Result
evaluation year given = evaluate (plan_given given) (supply_given year given)

-- Change request #101: "It refuses with 51 when that slice is shorter than the text, after the run's own refusals; the slice is unchanged, all
-- else and the step are as for 35, row and column 0."
abbrev pub with_text : ℕ → ℕ → Outcome → Outcome
with_text steps room (release table) = cond (leb (length (table_text table)) room) (release table) (refuse 51 steps 0 0)
with_text steps room (refuse number step row column) = refuse number step row column

-- what a run comes to: the evaluation's outcome, or 51
unfoldable pub run_outcome : ℕ → Given → Lent → Outcome
run_outcome year given lent = with_text (length (plan_given given)) (length lent.text) (evaluation year given).outcome

abbrev pub answer_of : Outcome → Told
answer_of (release table) = released (length table.rows) table.columns (length (table_text table))
answer_of (refuse number step row column) = refused_state number step row column

-- the values of the released rows, row by row; a refusal has none
abbrev pub rows_out : Outcome → List ℤ
rows_out (release table) = map (λ cell. cell.value) (flat table.rows)
rows_out (refuse number step row column) = []

-- the text of the released table
abbrev pub text_out : Outcome → List ℕ
text_out (release table) = table_text table
text_out (refuse number step row column) = []

-- a slice with these elements at its start, and the rest as it was
abbrev pub written : {A : Type 0} → List A → List A → List A
written news old = news ++ drop (length news) old

-- "A release writes the rows to the output"; "write the trace lines of the finished steps from the start of the trace"; "Both leave the
-- first 8,192 elements of both work slices zero; everything else lent is unchanged." #103: the marks are "left zero". #101: "The text goes,
-- beside the rows, to a lent byte slice of its own, from its start".
abbrev pub left_by : Outcome → List Line → Lent → Lent
left_by outcome trace lent = record {
  values = filled 8192 (pos 0) lent.values;
  labels = filled 8192 0 lent.labels;
  marks = filled 1024 0 lent.marks;
  output = written (rows_out outcome) lent.output;
  trace = written (flat_lines trace) lent.trace;
  text = written (text_out outcome) lent.text;
}

pub record Run : Type 0 where
  pub answer : Told
  pub left : Lent

abbrev pub ended : Told → Lent → Run
ended answer left = record { answer = answer; left = left }

abbrev pub by_input : InputVerdict → ℕ → Given → Lent → Run
by_input (rejected number place) year given lent = ended (refused_input number place) lent
by_input accepted year given lent = ended (answer_of (run_outcome year given lent)) (left_by (run_outcome year given lent) (evaluation year given).trace lent)

-- "1 .. First of all checks"; then the input checks; then the evaluation under the container's rule year
unfoldable pub monitor : Given → Lent → Run
monitor given lent = cond (enough lent) (by_input (check_given given) (year_given given) given lent) (ended (refused_state 1 0 0 0) lent)

-- a run of this year that is past 1 and past the input checks
pub record Begun (year : ℕ) (given : Given) (lent : Lent) : Type 0 where
  pub long : enough lent ≡ true
  pub accepted-is : check_given given ≡ accepted
  pub year-is : year_given given ≡ year
