-- What a conversion makes of a container that the old check accepts. Assumes nothing.
use Prim.Native.Nat.{ℕ, zero, suc, ◌+◌, ◌-◌, ◌<◌, ◌≤◌}
use mathlib.Core.Path.{◌≡◌, refl, subst, ◌∙◌}
use mathlib.Core.Bool.{Bool, true, false}
use mathlib.Core.List.{List, []}
use native.Mathlib.Omega.{arith}
use Rattle.container.specs.Check.{accepted, check_tables, table_widths, check_plan_part, check_input_from, check_input}
use Rattle.container.specs.Contents.{plan_of, tables_from, input_tables}
use Rattle.conversion.specs.Conversion.{check_before, has_one, ones_among, ones_from, changed_labels, converted}
use Rattle.conversion.proofs.Laid.{before, laid, table-passes}
use Rattle.container.proofs.Passed.{passed}
use Rattle.directory.specs.Directory.{check_pairs, check_directory}
use Rattle.input.proofs.Laws.{both}
use Rattle.layout.specs.Layout.{part_count, pair_at, offset_of, length_of, part_of}
use Rattle.layout_check.specs.Checks.{check_container}
use Rattle.little_endian.specs.Bytes.{byte_at}
use Rattle.plan.specs.Secrecy.{Pairwise, none, more}
use Rattle.table_check.specs.Checks.{check_cells, check_table}
use Rattle.table_part.specs.TablePart.{columns_of, cell_count, label_place, label_of, table_of}
use Rattle.conversion_demands.specs.Converted.{AreBytes, ConvertedPasses, TableConverted, ConvertedContents, Differs, OffsetsExact, OffsetsRise, OtherBytesKept, CurrentUnchanged}
use Rattle.conversion_demands.proofs.Labels.{formed-before}
use Rattle.conversion_demands.proofs.NewContainer.{same_size, elsewhere, two-there, same_count, same-year, same-offset, same-length_of, same-plan, label-byte, twin}
use Rattle.conversion_demands.proofs.Stands.{Stands, stands, stands-among, all-rise}
use Rattle.conversion_demands.proofs.TableParts.{first-is, same-columns, same-label, label-differs, passes-again, table-converted}
use Rattle.conversion_demands.proofs.TableTests.{tests, tested, next-sound}

-- ---- the new container passes

-- what holds of each table's part holds of these parts
of-tables : (bytes : List ℕ) (P : ℕ → Type 0) → ((table : ℕ) → table < part_count bytes - 1 → P (1 + table)) → (k : ℕ) → 1 ≤ k → k < 1 + (part_count bytes - 1) → P k
of-tables bytes P f k l h = subst P (omega arith) (f (k - 1) (omega arith))

tables-pass : (bytes : List ℕ) (part n : ℕ) → ((k : ℕ) → part ≤ k → k < part + n → check_table 2 (part_of bytes k) (offset_of bytes k) ≡ accepted) → check_tables 2 bytes part n ≡ accepted
tables-pass bytes part zero f = refl
tables-pass bytes part (suc n) f = rw (f part (omega arith) (omega arith)) (tables-pass bytes (suc part) n (λ k l h. f k (omega arith) (omega arith)))

module _ (old new : List ℕ) where
  widths-same : (part n : ℕ) → ((k : ℕ) → part ≤ k → k < part + n → columns_of (part_of new k) ≡ columns_of (part_of old k)) → table_widths new part n ≡ table_widths old part n
  widths-same part zero f = refl
  widths-same part (suc n) f = rw (f part (omega arith) (omega arith), widths-same (suc part) n (λ k l h. f k (omega arith) (omega arith)))

  tables-converted : (part n : ℕ) → ((k : ℕ) → part ≤ k → k < part + n → TableConverted (table_of (part_of old k)) (table_of (part_of new k)))
      → Pairwise TableConverted (tables_from old part n) (tables_from new part n)
  tables-converted part zero f = none
  tables-converted part (suc n) f = more (f part (omega arith) (omega arith)) (tables-converted (suc part) n (λ k l h. f k (omega arith) (omega arith)))

module _ (bytes : List ℕ) (e : check_input_from 1 bytes ≡ accepted) where
  same-pairs : (part n expected : ℕ) → part + n ≤ part_count bytes → check_pairs 12 (converted bytes) part n expected ≡ check_pairs 12 bytes part n expected
  same-pairs part zero expected h = rw (same_size bytes)
  same-pairs part (suc n) expected h =
      rw (same-offset bytes e part (omega arith), same-length_of bytes e part (omega arith), same-pairs (suc part) n (expected + length_of bytes part) (omega arith))

  same-directory : check_directory 12 (part_count (converted bytes)) (converted bytes) ≡ check_directory 12 (part_count bytes) bytes
  unfolding check_directory
  same-directory = rw (same_count bytes e) (same-pairs 0 (part_count bytes) (pair_at (part_count bytes)) (omega arith))

  same-container : check_container (converted bytes) ≡ check_container bytes
  unfolding check_container
  same-container = rw (same_size bytes, same-year bytes e, same_count bytes e)

  same-widths : table_widths (converted bytes) 1 (part_count bytes - 1) ≡ table_widths bytes 1 (part_count bytes - 1)
  same-widths =
      widths-same bytes (converted bytes) 1 (part_count bytes - 1)
      (of-tables bytes _ (λ table h. same-columns (twin bytes e table h)))

  same-plan-part : check_plan_part (converted bytes) ≡ check_plan_part bytes
  same-plan-part = rw (same-plan bytes e, same-offset bytes e 0 (omega (arith, (laid 1 bytes e).size.least)), same_count bytes e, same-widths)

  module _ (small : AreBytes bytes) where
    small-label : (table : ℕ) → table < part_count bytes - 1 → (cell : ℕ) → cell < cell_count (part_of bytes (1 + table)) → byte_at (part_of bytes (1 + table)) (label_place cell) < 256
    small-label table h cell c = rw (label-byte bytes e table h cell c) (small (offset_of bytes (1 + table) + label_place cell))

    new-tables : check_tables 2 (converted bytes) 1 (part_count bytes - 1) ≡ accepted
    new-tables =
        tables-pass (converted bytes) 1 (part_count bytes - 1)
        (of-tables bytes _ (λ table h.
        rw (same-offset bytes e (1 + table) (omega arith))
        (passes-again (twin bytes e table h) (small-label table h) (offset_of bytes (1 + table)) (table-passes 1 bytes e table h))))

pub converted-passes : ConvertedPasses
unfolding check_input check_input_from
converted-passes bytes small o =
    let e = (before bytes o).1 in
    let f = passed 1 bytes e in
    rw (same-container bytes e ∙ f.container, same-directory bytes e ∙ f.directory, same-plan-part bytes e ∙ f.plan, same_count bytes e, new-tables bytes e small)

-- ---- what it holds

pub converted-contents : ConvertedContents
unfolding plan_of input_tables
converted-contents bytes small o =
    let e = (before bytes o).1 in (
      rw (same-plan bytes e),
      rw (same_count bytes e)
          (tables-converted bytes (converted bytes) 1 (part_count bytes - 1)
          (of-tables bytes _ (λ table h. table-converted (twin bytes e table h) (small-label bytes e small table h)))),
    )

-- ---- the offsets

stands-differs : (bytes : List ℕ) → check_input_from 1 bytes ≡ accepted → (offset : ℕ) → Stands bytes offset → Differs bytes offset
stands-differs bytes e offset s =
    let o = s.here in
    record {
      table = s.table;
      cell = o.cell;
      is-table = s.is-table;
      is-cell = o.is-cell;
      place = o.place;
      differs = label-differs (twin bytes e s.table s.is-table) o.cell o.is-cell o.one;
    }

differs-stands : (bytes : List ℕ) → check_input_from 1 bytes ≡ accepted → (offset : ℕ) → Differs bytes offset → Stands bytes offset
differs-stands bytes e offset d = record {
  table = d.table;
  is-table = d.is-table;
  here = record { cell = d.cell; is-cell = d.is-cell; place = d.place; one = one (has_one (label_of part d.cell)) refl };
}
  where
    part : List ℕ
    part = part_of bytes (1 + d.table)

    one : (b : Bool) → has_one (label_of part d.cell) ≡ b → has_one (label_of part d.cell) ≡ true
    one true o = o
    one false o = absurd (d.differs (same-label (twin bytes e d.table d.is-table) d.cell o))

pub offsets-exact : OffsetsExact
offsets-exact bytes o offset = let e = (before bytes o).1 in (λ a. stands-differs bytes e offset (stands bytes offset a), λ d. stands-among bytes offset (differs-stands bytes e offset d))

pub offsets-rise : OffsetsRise
offsets-rise bytes e = all-rise bytes (before bytes e).1

-- ---- the bytes

pub other-bytes-kept : OtherBytesKept
other-bytes-kept bytes small old = record {
  same_length = same_size bytes;
  others = elsewhere bytes;
  changed = λ place a.
      let e = (before bytes old).1 in
      let s = stands bytes place a in
      let o = s.here in
      let part = part_of bytes (1 + s.table) in
      let byte = label-byte bytes e s.table s.is-table o.cell o.is-cell in
      (rw (o.place, ← byte) ((first-is part o.cell o.one).0 (small-label bytes e small s.table s.is-table o.cell o.is-cell)), two-there bytes e place a);
}

-- ---- a container without a 1

current-cells : (part : List ℕ) (at cell n : ℕ) → check_cells 2 part at cell n ≡ accepted → (check_cells 1 part at cell n ≡ accepted) × (ones_among part at cell n ≡ [])
current-cells part at cell zero e = (refl, refl)
current-cells part at cell (suc n) e =
    let s = next-sound 2 part at cell n e in
    let f = formed-before (label_of part cell) s.0.1 in
    let l = current-cells part at (suc cell) n s.1 in
    (rw (s.0.0, f.0) l.0, rw f.1 l.1)

current-tables : (bytes : List ℕ) (part n : ℕ) → check_tables 2 bytes part n ≡ accepted → (check_tables 1 bytes part n ≡ accepted) × (ones_from bytes part n ≡ [])
current-tables bytes part zero e = (refl, refl)
current-tables bytes part (suc n) e =
    let p = part_of bytes part in
    let at = offset_of bytes part in
    let b = both (check_table 2 p at) _ e in
    let t = tests 2 p at b.0 in
    let c = current-cells p at 0 (cell_count p) t.cells in
    let l = current-tables bytes (suc part) n b.1 in
    (rw (tested 1 p at (record { header = t.header; cells = c.0; sheets = t.sheets })) l.0, rw c.1 l.1)

pub current-unchanged : CurrentUnchanged
unfolding check_before check_input check_input_from changed_labels converted
current-unchanged bytes e year =
    let f = passed 2 bytes e in
    let t = current-tables bytes 1 (part_count bytes - 1) f.tables in
    (rw (year, f.container, f.directory, t.0) f.plan, t.1, rw t.1)
