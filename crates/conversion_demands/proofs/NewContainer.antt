-- The parts of the new container: the directory and the plan are the old ones, and each table is the old one with its ones raised. Assumes nothing.
use Prim.Native.Nat.{ℕ, ◌+◌, ◌-◌, ◌<◌, ◌≤◌}
use mathlib.Core.Path.{◌≡◌, sym, ap, subst, ◌∙◌}
use mathlib.Core.List.{List}
use native.Mathlib.Decide.{dec_lt}
use native.Mathlib.Omega.{arith}
use lib.ListN.{length, take, drop, length-take, length-drop}
use borrow.Author.Tests.{le-leb}
use Rattle.container.specs.Check.{accepted, check_input_from}
use Rattle.conversion.specs.Conversion.{changed_labels, converted}
use Rattle.conversion.proofs.Laid.{laid, part-is}
use Rattle.conversion.proofs.Ones.{raised-length}
use Rattle.layout.specs.Layout.{part_count, rule_year, pair_at, offset_of, length_of, part_of}
use Rattle.little_endian.specs.Bytes.{number_at, byte_at}
use Rattle.table_part.specs.TablePart.{cell_count, label_place}
use Rattle.conversion_demands.specs.Converted.{Among}
use Rattle.conversion_demands.proofs.Offsets.{byte-kept, byte-raised}
use Rattle.conversion_demands.proofs.Stands.{One, Stands, stands, stands-among, in_order, inside}
use Rattle.conversion_demands.proofs.TableParts.{Twin}
use Rattle.conversion_demands.proofs.Windows.{byte-in, same-window, same_number, same_byte}

pub same_size : (bytes : List ℕ) → length (converted bytes) ≡ length bytes
unfolding converted
same_size bytes = raised-length bytes (changed_labels bytes)

pub elsewhere : (bytes : List ℕ) (place : ℕ) → ¬ Among place (changed_labels bytes) → byte_at (converted bytes) place ≡ byte_at bytes place
unfolding converted
elsewhere bytes place n = byte-kept bytes (changed_labels bytes) place n

module _ (bytes : List ℕ) (e : check_input_from 1 bytes ≡ accepted) where
  -- a label to be raised is within its part
  within-part : (offset : ℕ) (s : Stands bytes offset)
      → (offset_of bytes (1 + s.table) ≤ offset) × (offset < offset_of bytes (1 + s.table) + length_of bytes (1 + s.table)) × (offset < length bytes)
  within-part offset s =
      let i = inside bytes e s.table s.here.cell s.is-table s.here.is-cell in
      let w = (laid 1 bytes e).within (1 + s.table) (omega (arith, s.is-table)) in
      omega (arith, s.here.place, i, w)

  pub two-there : (place : ℕ) → Among place (changed_labels bytes) → byte_at (converted bytes) place ≡ 2
  unfolding converted
  two-there place a = byte-raised bytes (changed_labels bytes) place (within-part place (stands bytes place a)).2 a

  -- ---- the directory and the plan

  past-plan : (offset : ℕ) → Among offset (changed_labels bytes) → offset_of bytes 0 + length_of bytes 0 ≤ offset
  past-plan offset a =
      let s = stands bytes offset a in
      omega (arith, (within-part offset s).0, in_order (laid 1 bytes e) 0 (1 + s.table) (omega arith) (omega (arith, s.is-table)))

  front-byte : (place : ℕ) → place < pair_at (part_count bytes) → byte_at (converted bytes) place ≡ byte_at bytes place
  front-byte place h = elsewhere bytes place (λ a. omega (arith, past-plan place a, (laid 1 bytes e).first))

  front : (at width : ℕ) → at + width ≤ pair_at (part_count bytes) → number_at (converted bytes) at width ≡ number_at bytes at width
  front at width h = same_number (converted bytes) bytes (same_size bytes) at width (λ i k. front-byte (at + i) (omega arith))

  pub same_count : part_count (converted bytes) ≡ part_count bytes
  same_count = front-byte 0 (omega arith)

  pub same-year : rule_year (converted bytes) ≡ rule_year bytes
  same-year = front-byte 1 (omega arith)

  module _ (part : ℕ) (h : part < part_count bytes) where
    pub same-offset : offset_of (converted bytes) part ≡ offset_of bytes part
    same-offset = front (pair_at part) 4 (omega arith)

    pub same-length_of : length_of (converted bytes) part ≡ length_of bytes part
    same-length_of = front (pair_at part + 4) 4 (omega arith)

    new-part : part_of (converted bytes) part ≡ take (length_of bytes part) (drop (offset_of bytes part) (converted bytes))
    unfolding part_of
    new-part = rw (same_size bytes, same-offset, same-length_of, le-leb (pair_at part + 8) (length bytes) (omega (arith, (laid 1 bytes e).size.room)))

  pub same-plan : part_of (converted bytes) 0 ≡ part_of bytes 0
  same-plan =
      let h : 0 < part_count bytes = omega (arith, (laid 1 bytes e).size.least) in
      new-part 0 h
      ∙ same-window (converted bytes) bytes (same_size bytes) (offset_of bytes 0) (length_of bytes 0)
      (λ i k. elsewhere bytes (offset_of bytes 0 + i) (λ a. omega (arith, past-plan (offset_of bytes 0 + i) a, k)))
      ∙ sym (part-is (laid 1 bytes e) 0 h)

  -- ---- the tables

  module _ (table : ℕ) (t : table < part_count bytes - 1) where
    -- a label to be raised that is within this part is one of it
    same-table : (offset : ℕ) (s : Stands bytes offset) → offset_of bytes (1 + table) ≤ offset → offset < offset_of bytes (1 + table) + length_of bytes (1 + table) → s.table ≡ table
    same-table offset s low high = go (dec_lt s.table table) (dec_lt table s.table)
      where
        go : Dec (s.table < table) → Dec (table < s.table) → s.table ≡ table
        go (yes h) k = absurd (omega (arith, (within-part offset s).1, in_order (laid 1 bytes e) (1 + s.table) (1 + table) (omega arith) (omega arith)))
        go (no h) (yes k) = absurd (omega (arith, (within-part offset s).0, in_order (laid 1 bytes e) (1 + table) (1 + s.table) (omega arith) (omega (arith, s.is-table))))
        go (no h) (no k) = omega arith

    abbrev at : ℕ
    at = offset_of bytes (1 + table)

    abbrev part : List ℕ
    part = part_of bytes (1 + table)

    pub label-byte : (cell : ℕ) → cell < cell_count part → byte_at part (label_place cell) ≡ byte_at bytes (at + label_place cell)
    label-byte cell h =
        ap (λ (p : List ℕ). byte_at p (label_place cell)) (part-is (laid 1 bytes e) (1 + table) (omega arith))
        ∙ byte-in bytes at (length_of bytes (1 + table)) (label_place cell) (omega (arith, inside bytes e table cell t h))

    one-here : (i : ℕ) → i < length_of bytes (1 + table) → Among (at + i) (changed_labels bytes) → One part 0 i
    one-here i h a =
        let s = stands bytes (at + i) a in
        let o : One part at (at + i) = subst (λ (n : ℕ). One (part_of bytes (1 + n)) (offset_of bytes (1 + n)) (at + i)) (same-table (at + i) s (omega arith) (omega arith)) s.here in
        record { cell = o.cell; is-cell = o.is-cell; place = omega (arith, o.place); one = o.one }

    one-there : (i : ℕ) → One part 0 i → Among (at + i) (changed_labels bytes)
    one-there i o =
        stands-among bytes (at + i) (record { table = table; is-table = t; here = record { cell = o.cell; is-cell = o.is-cell; place = omega (arith, o.place); one = o.one } })

    pub twin : Twin part (part_of (converted bytes) (1 + table))
    twin =
        let h : 1 + table < part_count bytes = omega arith in
        let l = length_of bytes (1 + table) in
        let old = part-is (laid 1 bytes e) (1 + table) h in
        let new = new-part (1 + table) h in
        record {
          same_length = ap length new ∙ (simp (length-take, length-drop, same_size bytes)) ∙ sym (ap length old);
          others = λ i n.
              ap (λ (p : List ℕ). byte_at p i) new
              ∙ same_byte (converted bytes) bytes (same_size bytes) at l i (λ k. elsewhere bytes (at + i) (λ a. n (one-here i k a)))
              ∙ sym (ap (λ (p : List ℕ). byte_at p i) old);
          ones = λ i o.
              ap (λ (p : List ℕ). byte_at p i) new
              ∙ byte-in (converted bytes) at l i (omega (arith, o.place, inside bytes e table o.cell t o.is-cell))
              ∙ two-there (at + i) (one-there i o);
        }
