-- Every lent slice keeps its length. Assumes nothing.
use Prim.Native.Nat.{ℕ, ◌≤◌}
use mathlib.Core.Path.{◌≡◌, refl}
use mathlib.Core.Bool.{true, ◌&&◌, and-eq-true_iff}
use native.Mathlib.Nat.{le_trans}
use native.Mathlib.Omega.{arith}
use lib.Dec.{leb}
use lib.IntN.{pos}
use lib.ListN.{length, length-map}
use borrow.Author.Tests.{leb-true}
use Rattle.plan.specs.Trace.{flat_lines}
use Rattle.demands.specs.Given.{year_given}
use Rattle.demands.specs.Lent.{enough}
use Rattle.demands.specs.Memory.{SameLengths, LengthsKept}
use Rattle.demands.specs.Monitor.{evaluation, run_outcome, rows_out, text_out, left_by, Begun}
use Rattle.demands.proofs.Runs.{by_cases}
use Rattle.demands.proofs.Slices.{filled-length, over-length}
use Rattle.demands.proofs.Tables.{cells-most, lines-most}
use Rattle.demands.proofs.Texts.{by-room}

pub lengths-kept : LengthsKept
lengths-kept given lent = by_cases year given lent refl (λ run. SameLengths lent run.left) (λ short. same) (λ n p long check. same) kept
  where
    year : ℕ
    year = year_given given

    same : SameLengths lent lent
    same = record { values = refl; labels = refl; marks = refl; output = refl; trace = refl; text = refl }

    long : enough lent ≡ true
        → (8192 ≤ length lent.values) × (8192 ≤ length lent.labels) × (1024 ≤ length lent.marks) × (2048 ≤ length lent.output) × (256 ≤ length lent.trace)
    long e =
        let v = leb 8192 (length lent.values) in
        let l = leb 8192 (length lent.labels) in
        let m = leb 1024 (length lent.marks) in
        let o = leb 2048 (length lent.output) in
        let a = (and-eq-true_iff (v && l && m && o) (leb 256 (length lent.trace))).0 e in
        let b = (and-eq-true_iff (v && l && m) o).0 a.0 in
        let c = (and-eq-true_iff (v && l) m).0 b.0 in
        let d = (and-eq-true_iff v l).0 c.0 in
        (leb-true 8192 _ d.0, leb-true 8192 _ d.1, leb-true 1024 _ c.1, leb-true 2048 _ b.1, leb-true 256 _ a.1)

    fits : Begun year given lent → (length (rows_out (run_outcome year given lent)) ≤ 2048) × (length (text_out (run_outcome year given lent)) ≤ length lent.text)
    fits b =
        by-room year given lent (λ o. (length (rows_out o) ≤ 2048) × (length (text_out o) ≤ length lent.text))
        (λ table o room. (simp length-map (cells-most year given b.accepted-is table o), room)) (λ table o short. (omega arith, omega arith))
        (λ number step row column o. (omega arith, omega arith))

    kept : Begun year given lent → SameLengths lent (left_by (run_outcome year given lent) (evaluation year given).trace lent)
    kept b =
        let h = long b.long in
        record {
          values = filled-length 8192 (pos 0) lent.values h.0;
          labels = filled-length 8192 0 lent.labels h.1;
          marks = filled-length 1024 0 lent.marks h.2;
          output = over-length (rows_out (run_outcome year given lent)) lent.output (le_trans (fits b).0 h.3);
          trace = over-length (flat_lines (evaluation year given).trace) lent.trace (le_trans (lines-most year given b.accepted-is) h.4);
          text = over-length (text_out (run_outcome year given lent)) lent.text (fits b).1;
        }
