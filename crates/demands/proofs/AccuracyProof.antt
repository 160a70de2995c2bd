-- Demand 2 holds of the monitor. Assumes nothing.
use Prim.Native.Nat.{ℕ, ◌*◌, ◌≤◌}
use mathlib.Core.Path.{◌≡◌, refl, ap, ap₂, subst, ◌∙◌}
use mathlib.Core.Bool.{true}
use mathlib.Core.List.{◌++◌}
use native.Mathlib.Omega.{arith}
use lib.ListN.{length, drop, length-map}
use Rattle.input.specs.Verdict.{rejected}
use Rattle.accepted.proofs.AcceptedTables.{checks}
use Rattle.csv_text.specs.Text.{table_text}
use Rattle.layout_check.proofs.Sized.{sized}
use Rattle.plan.specs.Table.{flat, Table}
use Rattle.cells.proofs.RowReads.{flat-length}
use Rattle.plan.specs.Evaluate.{Outcome, release}
use Rattle.plan.proofs.SenseEnd.{released-clear, refusal-numbers}
use Rattle.demands.specs.Accuracy.{values_of, BegunYears, ReleasedIsReleased, RefusedIsRefused, NoRoomIsRefused, TraceIsTrace, InputIsChecked, Released, ReleaseMeans, Refused, short, evaluated, no_room, RefusalMeans, RefusedInput, InputRefusalMeans}
use Rattle.demands.specs.Answers.{Told, released, refused_input, refused_state}
use Rattle.demands.specs.Given.{check_given, plan_given, year_given, supply_given}
use Rattle.demands.specs.Lent.{enough}
use Rattle.demands.specs.Monitor.{evaluation, run_outcome, answer_of, rows_out, text_out, written, Begun}
use Rattle.demands.proofs.InputNumbers.{given-numbers}
use Rattle.demands.proofs.MemoryProof.{never-input}
use Rattle.demands.proofs.Prepared.{container-ok}
use Rattle.demands.proofs.Runs.{input-run, begun-run, by_cases}
use Rattle.demands.proofs.Tables.{release-held}
use Rattle.demands.proofs.Texts.{refused-so, with-room, without-room, by-room, text-read}

pub begun-years : BegunYears
begun-years year given lent b = rw (← b.year-is) (sized given.container (checks given.container (container-ok given b.accepted-is)).container).year

-- ---- releases

pub released-is-released : ReleasedIsReleased
released-is-released year given lent b table e room =
    rw (begun-run year given lent b, with-room year given lent table e room) (refl, rw (length-map (flat table.rows) (λ cell. cell.value)), refl)

pub release-means : ReleaseMeans
unfolding evaluation
release-means year given lent rows columns bytes y =
    by_cases year given lent y (λ run. run.answer ≡ released rows columns bytes → Released year given lent rows columns bytes run.left.output run.left.text)
    (λ short e. absurd (let z : ◌≡◌ {A = ℕ} 0 1 = cc in omega arith)) (λ n p long check e. absurd (let z : ◌≡◌ {A = ℕ} 0 1 = cc in omega arith))
    (λ begun. by-room year given lent Means (fits begun) (λ table o few e. absurd (let z : ◌≡◌ {A = ℕ} 0 1 = cc in omega arith))
    (λ number step row column o e. absurd (let z : ◌≡◌ {A = ℕ} 0 1 = cc in omega arith)))
  where
    Means : Outcome → Type 0
    Means o = answer_of o ≡ released rows columns bytes → Released year given lent rows columns bytes (written (rows_out o) lent.output) (written (text_out o) lent.text)

    fits : Begun year given lent → (table : Table) → (evaluation year given).outcome ≡ release table → length (table_text table) ≤ length lent.text → Means (release table)
    fits b table o room e =
        let r : length table.rows ≡ rows = cc in
        let c : table.columns ≡ columns = cc in
        let n : length (table_text table) ≡ bytes = cc in
        let shaped = (release-held year given b.accepted-is table o).shaped in
        record {
          begun = b;
          table = table;
          outcome = o;
          as-many-rows = r;
          as-many-columns = c;
          shaped = shaped;
          clear = released-clear (plan_given given) (supply_given year given) table o;
          output-is =
              ap (λ (n : ℕ). values_of table ++ drop n lent.output)
              (length-map (flat table.rows) (λ cell. cell.value) ∙ flat-length table.columns table.rows shaped ∙ ap₂ ◌*◌ r c);
          as-many-bytes = n;
          text-is = ap (λ (n : ℕ). table_text table ++ drop n lent.text) n;
          text-read = rw (← n, ← c) (text-read year given b.accepted-is table o (drop (length (table_text table)) lent.text));
        }

-- ---- refusals because of the state

pub refused-is-refused : RefusedIsRefused
refused-is-refused year given lent b number step row column e = rw (begun-run year given lent b, refused-so year given lent e) (refl, refl, refl)

pub no-room-is-refused : NoRoomIsRefused
no-room-is-refused year given lent b table e few = rw (begun-run year given lent b, without-room year given lent table e few) (refl, refl, refl)

pub refusal-means : RefusalMeans
unfolding evaluation
refusal-means year given lent number step row column y =
    by_cases year given lent y (λ run. run.answer ≡ refused_state number step row column → Refused year given lent number step row column)
    (λ few e. subst Why e (short few)) (λ n p long check e. absurd (let z : ◌≡◌ {A = ℕ} 0 1 = cc in omega arith))
    (λ begun. by-room year given lent (λ o. answer_of o ≡ refused_state number step row column → Refused year given lent number step row column)
    (λ table o room e. absurd (let z : ◌≡◌ {A = ℕ} 0 1 = cc in omega arith)) (λ table o few e. subst Why e (no_room begun o few))
    (λ n s r c o e. let h = refusal-numbers (plan_given given) (supply_given year given) n s r c o in subst Why e (evaluated begun o h.0 h.1)))
  where
    Why : Told → Type 0
    Why (released rows columns bytes) = Unit
    Why (refused_input number place) = Unit
    Why (refused_state number step row column) = Refused year given lent number step row column

-- ---- refusals because of the input

pub input-is-checked : InputIsChecked
input-is-checked given lent long number place e = rw (input-run given lent number place long e)

pub input-refusal-means : InputRefusalMeans
input-refusal-means given lent number place =
    by_cases (year_given given) given lent refl (λ run. run.answer ≡ refused_input number place → RefusedInput given lent number place)
    (λ short e. absurd (let z : ◌≡◌ {A = ℕ} 0 1 = cc in omega arith)) by-check (λ begun e. absurd (never-input (run_outcome (year_given given) given lent) e))
  where
    by-check : (n p : ℕ) → enough lent ≡ true → check_given given ≡ rejected n p → refused_input n p ≡ refused_input number place
        → RefusedInput given lent number place
    by-check n p long check e =
        let so : check_given given ≡ rejected number place = cc in
        let h = given-numbers given.container given.overlays number place so in
        record { long = long; check = so; from-11 = h.0; to-22 = h.1 }

-- ---- the trace

pub trace-is-trace : TraceIsTrace
trace-is-trace year given lent b = rw (begun-run year given lent b)
