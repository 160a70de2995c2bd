-- Where the parts of an accepted container stand, and what its tables have passed. Assumes nothing.
use Prim.Native.Nat.{ℕ, zero, suc, ◌+◌, ◌-◌, ◌*◌, ◌≤◌, ◌<◌}
use mathlib.Core.Path.{◌≡◌, sym, ap, ◌∙◌}
use mathlib.Core.Bool.{not}
use mathlib.Core.List.{List}
use native.Mathlib.Nat.{zero-add, add-zero, add-suc, suc-add}
use native.Mathlib.Omega.{arith}
use lib.Dec.{eqb}
use lib.ListN.{length, take, drop, length-drop}
use lib.Seq.{length-take-le}
use borrow.Author.Tests.{eqb-true, le-leb, not-false}
use Rattle.container.specs.Check.{accepted, check_tables, check_input_from}
use Rattle.conversion.specs.Conversion.{check_before}
use Rattle.directory.specs.Directory.{check_pairs, check_directory}
use Rattle.layout.specs.Layout.{part_count, rule_year, pair_at, offset_of, length_of, part_of}
use Rattle.table_check.specs.Checks.{check_table}
use Rattle.container.proofs.Passed.{passed}
use Rattle.input.proofs.Laws.{both, not_so, passed as first-passed}
use Rattle.layout_check.proofs.Sized.{Sized, sized}
use Rattle.table_check.proofs.Header.{header}
use Rattle.table_part.specs.TablePart.{cell_count, header_fits}

-- the old check: no rule year, and the checks with 1 as the smallest minimum
pub before : (bytes : List ℕ) → check_before bytes ≡ accepted → (rule_year bytes ≡ 0) × (check_input_from 1 bytes ≡ accepted)
unfolding check_before
before bytes e =
    let p = first-passed (not (eqb (rule_year bytes) 0)) 11 0 _ e in
    (eqb-true (rule_year bytes) 0 (not-false _ p.0), p.1)

-- the parts stand one after the other, from the directory's end to the container's
pub record Laid (bytes : List ℕ) : Type 0 where
  pub size : Sized bytes
  pub first : offset_of bytes 0 ≡ pair_at (part_count bytes)
  pub next : (part : ℕ) → suc part < part_count bytes → offset_of bytes (suc part) ≡ offset_of bytes part + length_of bytes part
  pub within : (part : ℕ) → part < part_count bytes → offset_of bytes part + length_of bytes part ≤ length bytes

-- what is left of the directory from a part on
record Rest (bytes : List ℕ) (part more expected : ℕ) : Type 0 where
  end : expected ≤ length bytes
  here : 0 < more → offset_of bytes part ≡ expected
  nexts : (k : ℕ) → suc k < more → offset_of bytes (suc (part + k)) ≡ offset_of bytes (part + k) + length_of bytes (part + k)
  withins : (k : ℕ) → k < more → offset_of bytes (part + k) + length_of bytes (part + k) ≤ length bytes

one-before : {bytes : List ℕ} {part more expected : ℕ} → offset_of bytes part ≡ expected → Rest bytes (suc part) more (expected + length_of bytes part)
    → Rest bytes part (suc more) expected
one-before {bytes} {part} {more} {expected} at later = record { end = omega (arith, later.end); here = λ h. at; nexts = nexts; withins = withins }
  where
    nexts : (k : ℕ) → suc k < suc more → offset_of bytes (suc (part + k)) ≡ offset_of bytes (part + k) + length_of bytes (part + k)
    nexts zero h = rw (add-zero part, at) (later.here (omega arith))
    nexts (suc k) h = rw (add-suc part k ∙ sym (suc-add part k)) (later.nexts k (omega arith))

    withins : (k : ℕ) → k < suc more → offset_of bytes (part + k) + length_of bytes (part + k) ≤ length bytes
    withins zero h = rw (add-zero part, at) later.end
    withins (suc k) h = rw (add-suc part k ∙ sym (suc-add part k)) (later.withins k (omega arith))

rest : (bytes : List ℕ) (part more expected : ℕ) → check_pairs 12 bytes part more expected ≡ accepted → Rest bytes part more expected
rest bytes part zero expected e =
    let t = eqb-true expected (length bytes) (not-false _ (not_so (not (eqb expected (length bytes))) 12 _ e)) in
    record { end = omega arith; here = λ h. absurd (omega arith); nexts = λ k h. absurd (omega arith); withins = λ k h. absurd (omega arith) }
rest bytes part (suc more) expected e =
    let two = first-passed (not (eqb (offset_of bytes part) expected)) 12 (pair_at part) _ e in
    one-before (eqb-true _ _ (not-false _ two.0)) (rest bytes (suc part) more (expected + length_of bytes part) two.1)

-- the tables, one after the other
table_at : (least : ℕ) (bytes : List ℕ) (part more : ℕ) → check_tables least bytes part more ≡ accepted → (k : ℕ) → k < more
    → check_table least (part_of bytes (part + k)) (offset_of bytes (part + k)) ≡ accepted
table_at least bytes part zero e k h = absurd (omega arith)
table_at least bytes part (suc more) e zero h = rw (add-zero part) (both (check_table least (part_of bytes part) (offset_of bytes part)) _ e).0
table_at least bytes part (suc more) e (suc k) h = rw (add-suc part k ∙ sym (suc-add part k)) (table_at least bytes (suc part) more (both (check_table least (part_of bytes part) (offset_of bytes part)) _ e).1 k (omega arith))

module _ (least : ℕ) (bytes : List ℕ) (e : check_input_from least bytes ≡ accepted) where
  pub laid : Laid bytes
  unfolding check_directory
  laid =
      let r = rest bytes 0 (part_count bytes) (pair_at (part_count bytes)) (passed least bytes e).directory in
      let s = sized bytes (passed least bytes e).container in
      record {
        size = s;
        first = r.here (omega (arith, s.least));
        next = λ part h. rw (zero-add part) at (r.nexts part h);
        within = λ part h. rw (zero-add part) at (r.withins part h);
      }

  -- table t is part t + 1
  pub table-passes : (t : ℕ) → t < part_count bytes - 1 → check_table least (part_of bytes (1 + t)) (offset_of bytes (1 + t)) ≡ accepted
  table-passes t h = table_at least bytes 1 (part_count bytes - 1) (passed least bytes e).tables t h

module _ {bytes : List ℕ} (l : Laid bytes) (part : ℕ) (h : part < part_count bytes) where
  -- a part's bytes are all there
  pub part-is : part_of bytes part ≡ take (length_of bytes part) (drop (offset_of bytes part) bytes)
  unfolding part_of
  part-is = rw (le-leb (pair_at part + 8) (length bytes) (omega (arith, l.size.room)))

  pub part_length : length (part_of bytes part) ≡ length_of bytes part
  part_length = ap length part-is ∙ length-take-le (length_of bytes part) (drop (offset_of bytes part) bytes) (rw (length-drop (offset_of bytes part) bytes) (omega (arith, l.within part h)))

-- a table part: it has as many bytes as its cells need, and the next part begins where it ends
pub record TableLaid (bytes : List ℕ) (part : ℕ) : Type 0 where
  pub whole : length (part_of bytes part) ≡ 4 + 12 * cell_count (part_of bytes part)
  pub inside : offset_of bytes part + length (part_of bytes part) ≤ length bytes
  pub after : suc part < part_count bytes → offset_of bytes (suc part) ≡ offset_of bytes part + length (part_of bytes part)

pub table-laid : (least : ℕ) (bytes : List ℕ) → check_input_from least bytes ≡ accepted → (part : ℕ) → 1 ≤ part → part < part_count bytes → TableLaid bytes part
unfolding check_table
table-laid least bytes e part h k =
    let l = laid least bytes e in
    let t : 1 + (part - 1) ≡ part = omega arith in
    let n = part_length l part k in
    let p : check_table least (part_of bytes part) (offset_of bytes part) ≡ accepted = rw t at (table-passes least bytes e (part - 1) (omega arith)) in
    record {
      whole = (header (part_of bytes part) (not-false _ (first-passed (not (header_fits (part_of bytes part))) 13 (offset_of bytes part) _ p).0)).whole;
      inside = omega (arith, n, l.within part k);
      after = λ j. omega (arith, n, l.next part j);
    }
