-- The text of a released table: a table of values, no longer than the longest text, and what reading gives. Assumes nothing.
use Prim.Native.Nat.{ℕ, ◌≤◌, ◌<◌}
use mathlib.Core.Path.{◌≡◌, refl, sym, ap, ◌∙◌}
use mathlib.Core.Bool.{Bool, true, false}
use mathlib.Core.List.{List, [], ◌∷◌, ◌++◌, map}
use native.Mathlib.Omega.{arith}
use lib.Dec.{leb}
use lib.ListN.{length, take, length-map}
use lib.Seq.{take_at}
use borrow.Author.Tests.{leb-true, leb-false, le-leb, lt-leb}
use Rattle.csv_table.specs.Propositions.{IsTable}
use Rattle.csv_table.proofs.LongestProof.{longest-text}
use Rattle.csv_table.proofs.ReadsBackProof.{text-reads-back}
use Rattle.csv_reader.specs.Reader as reader
use Rattle.csv_text.specs.Text.{value_rows, table_text}
use Rattle.input.specs.Verdict.{InputVerdict, accepted, rejected}
use Rattle.plan.specs.Evaluate.{Outcome, release, refuse}
use Rattle.plan.specs.Table.{Cell, Each, Row, Table}
use Rattle.plan.proofs.AboutEnding.{release-is-last}
use Rattle.plan.proofs.SenseEnd.{released-clear}
use Rattle.value.specs.Range.{in_range}
use Rattle.demands.specs.Given.{Given, check_given, plan_given, year_given, supply_given}
use Rattle.demands.specs.Lent.{Lent, enough}
use Rattle.demands.specs.Monitor.{evaluation, run_outcome, answer_of, by_input, monitor}
use Rattle.demands.proofs.Columns.{top-some}
use Rattle.demands.proofs.Runs.{by-input}
use Rattle.demands.proofs.Tables.{release-held}

-- ---- what a run comes to, by the room for the text

module _ (year : ℕ) (given : Given) (lent : Lent) where
  pub refused-so : {number step row column : ℕ} → (evaluation year given).outcome ≡ refuse number step row column
      → run_outcome year given lent ≡ refuse number step row column
  unfolding run_outcome
  refused-so e = rw e

  module _ (table : Table) (o : (evaluation year given).outcome ≡ release table) where
    pub with-room : length (table_text table) ≤ length lent.text → run_outcome year given lent ≡ release table
    unfolding run_outcome
    with-room h = rw (o, le-leb (length (table_text table)) (length lent.text) h)

    pub without-room : length lent.text < length (table_text table) → run_outcome year given lent ≡ refuse 51 (length (plan_given given)) 0 0
    unfolding run_outcome
    without-room h = rw (o, lt-leb (length (table_text table)) (length lent.text) h)

  -- what holds in each case holds of what a run comes to
  pub by-room : (P : Outcome → Type 0)
      → ((table : Table) → (evaluation year given).outcome ≡ release table → length (table_text table) ≤ length lent.text → P (release table))
      → ((table : Table) → (evaluation year given).outcome ≡ release table → length lent.text < length (table_text table) → P (refuse 51 (length (plan_given given)) 0 0))
      → ((number step row column : ℕ) → (evaluation year given).outcome ≡ refuse number step row column → P (refuse number step row column)) → P (run_outcome year given lent)
  by-room P fits short refused = by-outcome (evaluation year given).outcome refl
    where
      by-outcome : (o : Outcome) → (evaluation year given).outcome ≡ o → P (run_outcome year given lent)
      by-outcome (refuse number step row column) e = rw (refused-so e) (refused number step row column e)
      by-outcome (release table) e = by_length (leb (length (table_text table)) (length lent.text)) refl
        where
          by_length : (b : Bool) → leb (length (table_text table)) (length lent.text) ≡ b → P (run_outcome year given lent)
          by_length true l = let h = leb-true _ _ l in rw (with-room table e h) (fits table e h)
          by_length false l = let h = leb-false _ _ l in rw (without-room table e h) (short table e h)

-- ---- the text of what an accepted container releases

rows-wide : (columns : ℕ) (rows : List Row) → Each (λ row. length row.cells ≡ columns) rows
    → Each (λ row. length row ≡ columns) (map (λ row. map (λ cell. cell.value) row.cells) rows)
rows-wide columns [] e = tt
rows-wide columns (row ∷ rows) e = (length-map row.cells (λ cell. cell.value) ∙ e.0, rows-wide columns rows e.1)

abbrev Clear : Cell → Type 0
Clear cell = (cell.label ≡ 0) × (in_range cell.value ≡ true)

row-in-range : (cells : List Cell) → Each Clear cells → Each (λ v. in_range v ≡ true) (map (λ cell. cell.value) cells)
row-in-range [] e = tt
row-in-range (cell ∷ cells) e = (e.0.1, row-in-range cells e.1)

rows-in-range : (rows : List Row) → Each (λ row. Each Clear row.cells) rows
    → Each (λ row. Each (λ v. in_range v ≡ true) row) (map (λ row. map (λ cell. cell.value) row.cells) rows)
rows-in-range [] e = tt
rows-in-range (row ∷ rows) e = (row-in-range row.cells e.0, rows-in-range rows e.1)

module _ (year : ℕ) (given : Given) (e : check_given given ≡ accepted) (table : Table) (o : (evaluation year given).outcome ≡ release table) where
  is-table : IsTable table.columns (value_rows table)
  unfolding evaluation
  is-table =
      let held = release-held year given e table o in
      record {
        some = rw (release-is-last (plan_given given) (supply_given year given) table o).0 (top-some year given e);
        most = held.few;
        wide = rows-wide table.columns table.rows held.shaped;
        values = rows-in-range table.rows (released-clear (plan_given given) (supply_given year given) table o);
      }

  pub text-most : length (table_text table) ≤ 35097
  text-most =
      let few : length (value_rows table) ≤ 256 = rw (length-map table.rows (λ row. map (λ cell. cell.value) row.cells)) (release-held year given e table o).small in
      longest-text.0 table.columns (value_rows table) is-table few

  pub text-read : (rest : List ℕ) → reader.read_text 1 (take (length (table_text table)) (table_text table ++ rest)) ≡ reader.table table.columns (value_rows table)
  text-read rest =
      rw (take_at (table_text table) rest (length (table_text table)) refl) (text-reads-back 1 table.columns (value_rows table) is-table.some is-table)

-- ---- the answer does not hang on what the lent slices hold, and not on the room for the text where every text has room

outcome-same : (year : ℕ) (given : Given) (a b : Lent) → check_given given ≡ accepted → 35097 ≤ length a.text → 35097 ≤ length b.text → run_outcome year given a ≡ run_outcome year given b
outcome-same year given a b e room room' =
    by-room year given a (λ o. o ≡ run_outcome year given b) (λ table o h. sym (with-room year given b table o (omega (arith, text-most year given e table o))))
    (λ table o h. absurd (omega (arith, text-most year given e table o))) (λ number step row column o. sym (refused-so year given b o))

pub answer-same : (given : Given) (a b : Lent) → enough a ≡ true → enough b ≡ true → 35097 ≤ length a.text → 35097 ≤ length b.text
    → (monitor given a).answer ≡ (monitor given b).answer
answer-same given a b long long' room room' = rw (by-input given a long, by-input given b long') (same (check_given given) refl)
  where
    same : (v : InputVerdict) → check_given given ≡ v → (by_input v (year_given given) given a).answer ≡ (by_input v (year_given given) given b).answer
    same accepted e = ap answer_of (outcome-same (year_given given) given a b e room room')
    same (rejected number place) e = refl
