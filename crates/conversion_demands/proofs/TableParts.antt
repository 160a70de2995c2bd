-- A table part, and the same part with each minimum of 1 raised. Assumes nothing.
use Prim.Native.Nat.{ℕ, zero, suc, ◌+◌, ◌-◌, ◌*◌, ◌<◌, ◌≤◌}
use mathlib.Core.Path.{◌≡◌, refl, sym, ap, ap₂, ◌∙◌}
use mathlib.Core.Bool.{Bool, true, false, true≢false, not, ◌&&◌, ◌||◌, and-eq-true_iff}
use mathlib.Core.List.{List}
use mathlib.Core.Logic.{◌≢◌}
use native.Mathlib.Omega.{arith}
use lib.Dec.{eqb, leb}
use lib.ListN.{length}
use borrow.Author.Tests.{eqb-true}
use Rattle.conversion.specs.Conversion.{has_one}
use Rattle.label_words.specs.Word.{field_at}
use Rattle.little_endian.specs.Bytes.{number_at, byte_at}
use Rattle.little_endian.proofs.Numbers.{number-one, joined}
use Rattle.plan.specs.Secrecy.{Pairwise, none, more}
use Rattle.plan.specs.Table.{clear}
use Rattle.sheet_check.specs.Sheets.{sheet_fits, all_fit, sheets_fit}
use Rattle.table_check.specs.Checks.{check_table}
use Rattle.table_part.specs.TablePart.{columns_of, sheets_of, row_count, cell_count, header_fits, value_place, label_place, value_of, label_of, cells_from, table_of}
use Rattle.input.specs.Verdict.{accepted}
use Rattle.value.specs.Pattern.{signed_of, negative}
use Rattle.conversion_demands.specs.Converted.{CellConverted, TableConverted}
use Rattle.conversion_demands.proofs.Labels.{Change, stays, rises, change-formed, change-is, first_byte}
use Rattle.conversion_demands.proofs.Stands.{One}
use Rattle.conversion_demands.proofs.TableTests.{tests, tested, cells-again}
use Rattle.conversion_demands.proofs.Windows.{same_number}

-- the three bytes after the first of a label
abbrev rest : List ℕ → ℕ → ℕ
rest part cell = number_at part (label_place cell + 1) 3

first-and-rest : (part : List ℕ) (cell : ℕ) → byte_at part (label_place cell) + 256 * rest part cell ≡ label_of part cell
first-and-rest part cell = joined part (label_place cell) 1 3 (number-one part (label_place cell) refl) refl

pub first-is : (part : List ℕ) (cell : ℕ) → has_one (label_of part cell) ≡ true
    → (byte_at part (label_place cell) < 256 → byte_at part (label_place cell) ≡ 1) × (byte_at part (label_place cell) ≢ 2)
first-is part cell o = first_byte (byte_at part (label_place cell)) (rest part cell) (rw (first-and-rest part cell) o)

-- the new part has a 2 where a label with a minimum of 1 stands, and is the old one elsewhere
pub record Twin (old new : List ℕ) : Type 0 where
  pub same_length : length new ≡ length old
  pub others : (i : ℕ) → ¬ One old 0 i → byte_at new i ≡ byte_at old i
  pub ones : (i : ℕ) → One old 0 i → byte_at new i ≡ 2

module _ {old new : List ℕ} (t : Twin old new) where
  -- where no label begins that has a 1
  numbers : (at width : ℕ) → ((i : ℕ) → i < width → ¬ One old 0 (at + i)) → number_at new at width ≡ number_at old at width
  numbers at width f = same_number new old t.same_length at width (λ i h. t.others (at + i) (f i h))

  pub same-columns : columns_of new ≡ columns_of old
  same-columns = t.others 0 (λ o. omega (arith, o.place))

  same-sheets : sheets_of new ≡ sheets_of old
  same-sheets = t.others 1 (λ o. omega (arith, o.place))

  same_rows : row_count new ≡ row_count old
  same_rows = numbers 2 2 (λ i h o. omega (arith, o.place))

  same-value : (cell : ℕ) → value_of new cell ≡ value_of old cell
  same-value cell = ap signed_of (numbers (value_place cell) 8 (λ i h o. omega (arith, o.place)))

  -- ---- the labels

  pub same-label : (cell : ℕ) → has_one (label_of old cell) ≡ false → label_of new cell ≡ label_of old cell
  same-label cell n = numbers (label_place cell) 4 (λ i h o. true≢false (sym o.one ∙ ap (λ (k : ℕ). has_one (label_of old k)) (omega (arith, o.place)) ∙ n))

  module _ (cell : ℕ) (h : cell < cell_count old) (o : has_one (label_of old cell) ≡ true) where
    raised-label : label_of new cell ≡ 2 + 256 * rest old cell
    raised-label =
        sym (first-and-rest new cell)
        ∙ ap₂ (λ (b r : ℕ). b + 256 * r) (t.ones (label_place cell) (record { cell = cell; is-cell = h; place = omega arith; one = o }))
        (numbers (label_place cell + 1) 3 (λ i k p. omega (arith, p.place)))

    pub label-differs : label_of new cell ≢ label_of old cell
    label-differs e = (first-is old cell o).1 (omega (arith, e, raised-label, first-and-rest old cell))

  pub label-change : (cell : ℕ) → cell < cell_count old → byte_at old (label_place cell) < 256 → Change (label_of old cell) (label_of new cell)
  label-change cell h small = go (has_one (label_of old cell)) refl
    where
      go : (b : Bool) → has_one (label_of old cell) ≡ b → Change (label_of old cell) (label_of new cell)
      go true o = rises o (omega (arith, raised-label cell h o, first-and-rest old cell, (first-is old cell o).0 small))
      go false o = stays o (same-label cell o)

  -- ---- the checks

  clear-same : (cell : ℕ) → clear (label_of old cell) ≡ true → label_of new cell ≡ label_of old cell
  unfolding field_at
  clear-same cell c = same-label cell (ap has_one (eqb-true (label_of old cell) 0 c))

  fit-again : (cell n : ℕ) → all_fit old cell n ≡ true → all_fit new cell n ≡ true
  fit-again cell zero e = refl
  fit-again cell (suc n) e =
      let b = (and-eq-true_iff (sheet_fits old cell) (all_fit old (cell + columns_of old) n)).0 e in
      let c = ((and-eq-true_iff (not (negative (value_of old cell))) (clear (label_of old cell))).0 b.0).1 in
      rw (same-value cell, clear-same cell c, b.0, same-columns) (fit-again (cell + columns_of old) n b.1)

  sheets-again : sheets_fit old ≡ true → sheets_fit new ≡ true
  unfolding sheets_fit
  sheets-again e = rw (same-sheets, same-columns, same_rows) (go (eqb (sheets_of old) 0) e)
    where
      go : (none : Bool) → (none || (leb (sheets_of old) (columns_of old) && all_fit old (sheets_of old - 1) (row_count old))) ≡ true
          → (none || (leb (sheets_of old) (columns_of old) && all_fit new (sheets_of old - 1) (row_count old))) ≡ true
      go true f = refl
      go false f =
          let b = (and-eq-true_iff (leb (sheets_of old) (columns_of old)) (all_fit old (sheets_of old - 1) (row_count old))).0 f in
          rw b.0 (fit-again (sheets_of old - 1) (row_count old) b.1)

  header-again : header_fits new ≡ header_fits old
  unfolding header_fits
  header-again = rw (t.same_length, same-columns, same_rows)

  module _ (small : (cell : ℕ) → cell < cell_count old → byte_at old (label_place cell) < 256) where
    pub passes-again : (at : ℕ) → check_table 1 old at ≡ accepted → check_table 2 new at ≡ accepted
    passes-again at e =
        let p = tests 1 old at e in
        tested 2 new at (record {
          header = header-again ∙ p.header;
          cells =
              rw (same_rows, same-columns)
              (cells-again 1 old at 2 new 0 (cell_count old) (λ k h s. let c : k < cell_count old = omega arith in (rw (same-value k) s.0, change-formed (label-change k c (small k c)) s.1)) p.cells);
          sheets = sheets-again p.sheets;
        })

    -- ---- the contents

    cells-converted : (cell n : ℕ) → cell + n ≤ cell_count old → Pairwise CellConverted (cells_from old cell n) (cells_from new cell n)
    cells-converted cell zero h = none
    cells-converted cell (suc n) h =
        more (record { value = same-value cell; label = change-is (label-change cell (omega arith) (small cell (omega arith))) }) (cells-converted (suc cell) n (omega arith))

    pub table-converted : TableConverted (table_of old) (table_of new)
    unfolding table_of
    table-converted = record {
      columns = same-columns;
      sheets = same-sheets;
      rows = same_rows;
      cells = rw (same_rows, same-columns) (cells-converted 0 (cell_count old) (omega arith));
    }
