-- The offsets of the labels to be raised are those of the labels with a minimum of 1, and they rise. Assumes nothing.
use Prim.Native.Nat.{ℕ, zero, suc, ◌+◌, ◌-◌, ◌<◌, ◌≤◌}
use mathlib.Core.Path.{◌≡◌, refl, sym, ap, subst, ◌∙◌}
use mathlib.Core.Bool.{Bool, true, false, cond}
use mathlib.Core.List.{List, [], ◌∷◌, ◌++◌}
use mathlib.Core.Logic.{inl, inr}
use native.Mathlib.Nat.{zero-add, le_of_eq, eq-or-lt_of_le}
use native.Mathlib.Omega.{arith}
use Rattle.container.specs.Check.{accepted, check_input_from}
use Rattle.conversion.specs.Conversion.{has_one, one_at, ones_among, ones_from, changed_labels}
use Rattle.conversion.proofs.Laid.{Laid, laid, table-passes, part_length}
use Rattle.conversion.proofs.Ones.{ones-more, ones_of, from_more}
use Rattle.layout.specs.Layout.{part_count, offset_of, length_of, part_of}
use Rattle.table_check.proofs.Header.{header}
use Rattle.table_part.specs.TablePart.{cell_count, label_place, label_of}
use Rattle.conversion_demands.specs.Converted.{Among}
use Rattle.conversion_demands.proofs.Offsets.{Rising, among-some, among-all, all-rising}
use Rattle.conversion_demands.proofs.TableTests.{tests}

-- ---- of one part

in-cond : (b : Bool) (x offset : ℕ) → Among offset (cond b (x ∷ []) []) → (b ≡ true) × (offset ≡ x)
in-cond true x offset (inl e) = (refl, e)
in-cond true x offset (inr a) = absurd a
in-cond false x offset a = absurd a

cond-rises : (b : Bool) (x : ℕ) → Rising (cond b (x ∷ []) [])
cond-rises true x = (tt, tt)
cond-rises false x = tt

-- the label of a cell has a minimum of 1, and stands at this offset where the part begins at `at`
pub record One (part : List ℕ) (at offset : ℕ) : Type 0 where
  pub cell : ℕ
  pub is-cell : cell < cell_count part
  pub place : offset ≡ at + label_place cell
  pub one : has_one (label_of part cell) ≡ true

module _ (part : List ℕ) (at : ℕ) where
  next-cell : (n : ℕ) → ones_among part at 0 (suc n) ≡ ones_among part at 0 n ++ one_at part at n
  next-cell n = ones-more part at 0 n ∙ ap (λ (m : ℕ). ones_among part at 0 n ++ one_at part at m) (zero-add n)

  one-among : (offset : ℕ) → Among offset (ones_among part at 0 (cell_count part)) → One part at offset
  one-among offset a =
      let s = among-some (ones_among part at 0) (one_at part at) refl next-cell offset (cell_count part) a in
      let c = in-cond (has_one (label_of part s.0)) (at + label_place s.0) offset s.2 in
      record { cell = s.0; is-cell = s.1; place = c.1; one = c.0 }

  among_one : (offset : ℕ) → One part at offset → Among offset (ones_among part at 0 (cell_count part))
  among_one offset o = among-all (ones_among part at 0) (one_at part at) refl next-cell offset (cell_count part) o.cell o.is-cell (rw o.one (inl o.place))

  ones-rise : Rising (ones_among part at 0 (cell_count part))
  ones-rise =
      all-rising (ones_among part at 0) (one_at part at) refl next-cell (cell_count part) (λ k h. cond-rises (has_one (label_of part k)) (at + label_place k))
      (λ j k x y h i a b. omega (arith, h, (in-cond (has_one (label_of part j)) (at + label_place j) x a).1, (in-cond (has_one (label_of part k)) (at + label_place k) y b).1))

-- ---- of all tables

pub record Stands (bytes : List ℕ) (offset : ℕ) : Type 0 where
  pub table : ℕ
  pub is-table : table < part_count bytes - 1
  pub here : One (part_of bytes (1 + table)) (offset_of bytes (1 + table)) offset

abbrev ones_in : List ℕ → ℕ → List ℕ
ones_in bytes table = ones_of bytes (1 + table)

module _ (bytes : List ℕ) (offset : ℕ) where
  pub stands : Among offset (changed_labels bytes) → Stands bytes offset
  unfolding changed_labels
  stands a =
      let s = among-some (ones_from bytes 1) (ones_in bytes) refl (from_more bytes 1) offset (part_count bytes - 1) a in
      record { table = s.0; is-table = s.1; here = one-among (part_of bytes (1 + s.0)) (offset_of bytes (1 + s.0)) offset s.2 }

  pub stands-among : Stands bytes offset → Among offset (changed_labels bytes)
  unfolding changed_labels
  stands-among s =
      among-all (ones_from bytes 1) (ones_in bytes) refl (from_more bytes 1) offset (part_count bytes - 1) s.table s.is-table
      (among_one (part_of bytes (1 + s.table)) (offset_of bytes (1 + s.table)) offset s.here)

-- ---- where the parts stand

module _ {bytes : List ℕ} (l : Laid bytes) where
  pub in_order : (part later : ℕ) → part < later → later < part_count bytes → offset_of bytes part + length_of bytes part ≤ offset_of bytes later
  in_order part zero h k = absurd (omega arith)
  in_order part (suc later) h k =
      elim (eq-or-lt_of_le h) [
        | inl f ↦ subst (λ (p : ℕ). offset_of bytes p + length_of bytes p ≤ offset_of bytes (suc later)) (omega arith) (le_of_eq (sym (l.next later k)))
        | inr i ↦ omega (arith, in_order part later (omega arith) (omega arith), l.next later k)
      ]

module _ (bytes : List ℕ) (e : check_input_from 1 bytes ≡ accepted) where
  -- a label's four bytes are within its part
  pub inside : (table cell : ℕ) → table < part_count bytes - 1 → cell < cell_count (part_of bytes (1 + table)) → label_place cell + 4 ≤ length_of bytes (1 + table)
  inside table cell h c =
      let w = (header (part_of bytes (1 + table)) (tests 1 (part_of bytes (1 + table)) (offset_of bytes (1 + table)) (table-passes 1 bytes e table h)).header).whole in
      omega (arith, c, w, part_length (laid 1 bytes e) (1 + table) (omega arith))

  pub all-rise : Rising (changed_labels bytes)
  unfolding changed_labels
  all-rise =
      all-rising (ones_from bytes 1) (ones_in bytes) refl (from_more bytes 1) (part_count bytes - 1) (λ t h. ones-rise (part_of bytes (1 + t)) (offset_of bytes (1 + t)))
      (λ s t x y h i a b.
      let first = one-among (part_of bytes (1 + s)) (offset_of bytes (1 + s)) x a in
      let later = one-among (part_of bytes (1 + t)) (offset_of bytes (1 + t)) y b in
      omega (arith, first.place, later.place, inside s first.cell (omega arith) first.is-cell, in_order (laid 1 bytes e) (1 + s) (1 + t) (omega arith) (omega arith)))
