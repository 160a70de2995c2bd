-- An accepted container with rule year 0 in it: it is accepted, with the same plan and the same tables. Assumes nothing.
use Prim.Native.Nat.{ℕ, zero, suc, ◌+◌, ◌-◌, ◌≤◌, ◌<◌}
use mathlib.Core.Path.{◌≡◌, refl, ◌∙◌}
use mathlib.Core.Bool.{Bool, true, false}
use mathlib.Core.List.{List, [], ◌∷◌}
use native.Mathlib.Omega.{arith}
use lib.Dec.{eqb}
use lib.ListN.{length, set, length-set}
use lib.Seq.{get_or-set_same, get_or-set_other, drop-set-lt}
use borrow.Author.Tests.{le-ltb}
use Rattle.container.specs.Check.{accepted, check_tables, table_widths, check_input_from, check_input}
use Rattle.container.specs.Contents.{plan_of, tables_from, input_tables}
use Rattle.conversion.proofs.Laid.{Laid, laid}
use Rattle.directory.specs.Directory.{check_pairs, check_directory}
use Rattle.input.proofs.Laws.{both}
use Rattle.label_words.specs.WellFormed.{smallest_minimum}
use Rattle.layout.specs.Layout.{part_count, rule_year, pair_at, offset_of, length_of, part_of}
use Rattle.layout_check.specs.Checks.{check_container}
use Rattle.little_endian.specs.Bytes.{number_at}
use Rattle.overlaid.proofs.Overlaid.{container-accepted, overlays-accepted, overlay-passed}
use Rattle.overlay_check.specs.OverlayCheck.{overlay_count, check_count, check_part, each_part, check_overlay}
use Rattle.overlays.specs.Overlays.{check_overlays, check_all}

-- the container with year 0
abbrev pub in_year_zero : List ℕ → List ℕ
in_year_zero bytes = set bytes 1 0

-- ---- the directory: of any bytes

module _ (bytes : List ℕ) where
  same_size : length (in_year_zero bytes) ≡ length bytes
  same_size = length-set bytes 1 0

  same_count : part_count (in_year_zero bytes) ≡ part_count bytes
  same_count = get_or-set_other bytes 1 0 0 0 (λ e. omega (arith, e))

  same_number : (at width : ℕ) → 2 ≤ at → number_at (in_year_zero bytes) at width ≡ number_at bytes at width
  unfolding number_at
  same_number at width h = rw (drop-set-lt at bytes 1 0 h)

  same-offset : (part : ℕ) → offset_of (in_year_zero bytes) part ≡ offset_of bytes part
  same-offset part = same_number (pair_at part) 4 (omega arith)

  same-length_of : (part : ℕ) → length_of (in_year_zero bytes) part ≡ length_of bytes part
  same-length_of part = same_number (pair_at part + 4) 4 (omega arith)

  same-pairs : (part n expected : ℕ) → check_pairs 12 (in_year_zero bytes) part n expected ≡ check_pairs 12 bytes part n expected
  same-pairs part zero expected = rw same_size
  same-pairs part (suc n) expected = rw (same-offset part, same-length_of part, same-pairs (suc part) n (expected + length_of bytes part))

  same-directory : check_directory 12 (part_count (in_year_zero bytes)) (in_year_zero bytes) ≡ check_directory 12 (part_count bytes) bytes
  unfolding check_directory
  same-directory = rw same_count (same-pairs 0 (part_count bytes) (pair_at (part_count bytes)))

-- ---- the parts, which all begin past the directory

module _ (bytes : List ℕ) (e : check_input bytes ≡ accepted) where
  laid_out : Laid bytes
  unfolding check_input
  laid_out = laid smallest_minimum bytes e

  pub year-zero : rule_year (in_year_zero bytes) ≡ 0
  year-zero = get_or-set_same bytes 1 0 0 (omega (arith, laid_out.size.room))

  same-container : check_container (in_year_zero bytes) ≡ check_container bytes
  unfolding check_container
  same-container = rw (same_size bytes, same_count bytes, year-zero, le-ltb 1 (rule_year bytes) laid_out.size.year)

  past : (part : ℕ) → part < part_count bytes → 2 ≤ offset_of bytes part
  past zero h = omega (arith, laid_out.first)
  past (suc part) h = omega (arith, past part (omega arith), laid_out.next part h)

  same-part : (part : ℕ) → part < part_count bytes → part_of (in_year_zero bytes) part ≡ part_of bytes part
  unfolding part_of
  same-part part h = rw (same_size bytes, same-offset bytes part, same-length_of bytes part, drop-set-lt (offset_of bytes part) bytes 1 0 (past part h))

  -- ---- what is read of them, of so many parts from one on

  same-checks : (part n : ℕ) → part + n ≤ part_count bytes → check_tables smallest_minimum (in_year_zero bytes) part n ≡ check_tables smallest_minimum bytes part n
  same-checks part zero h = refl
  same-checks part (suc n) h = rw (same-part part (omega arith), same-offset bytes part, same-checks (suc part) n (omega arith))

  same-widths : (part n : ℕ) → part + n ≤ part_count bytes → table_widths (in_year_zero bytes) part n ≡ table_widths bytes part n
  same-widths part zero h = refl
  same-widths part (suc n) h = rw (same-part part (omega arith), same-widths (suc part) n (omega arith))

  same_tables : (part n : ℕ) → part + n ≤ part_count bytes → tables_from (in_year_zero bytes) part n ≡ tables_from bytes part n
  same_tables part zero h = refl
  same_tables part (suc n) h = rw (same-part part (omega arith), same_tables (suc part) n (omega arith))

  same-overlay-parts : (overlay : List ℕ) (part n : ℕ) → part + n < part_count bytes
      → each_part (check_part (in_year_zero bytes) overlay) part n ≡ each_part (check_part bytes overlay) part n
  same-overlay-parts overlay part zero h = refl
  same-overlay-parts overlay part (suc n) h = rw (same-part (part + 1) (omega arith), same-overlay-parts overlay (suc part) n (omega arith))

  -- of the plan, and of all tables

  first_part : part_of (in_year_zero bytes) 0 ≡ part_of bytes 0
  first_part = same-part 0 (omega (arith, laid_out.size.least))

  all-tables : 1 + (part_count bytes - 1) ≤ part_count bytes
  all-tables = omega (arith, laid_out.size.least)

  pub same-plan : plan_of (in_year_zero bytes) ≡ plan_of bytes
  unfolding plan_of
  same-plan = rw first_part

  pub same_inputs : input_tables (in_year_zero bytes) ≡ input_tables bytes
  unfolding input_tables
  same_inputs = rw (same_count bytes) (same_tables 1 (part_count bytes - 1) all-tables)

  -- ---- the checks

  same-input : check_input (in_year_zero bytes) ≡ check_input bytes
  unfolding check_input check_input_from
  same-input =
      rw (
        same-container,
        same-directory bytes,
        same_count bytes,
        same-checks 1 (part_count bytes - 1) all-tables,
        first_part,
        same-offset bytes 0,
        same-widths 1 (part_count bytes - 1) all-tables,
      )

  passes-too : (overlay : List ℕ) → check_overlay bytes overlay ≡ accepted → check_overlay (in_year_zero bytes) overlay ≡ accepted
  unfolding check_overlay check_count
  passes-too overlay ok = go (eqb (length overlay) 0) refl
    where
      go : (empty : Bool) → eqb (length overlay) 0 ≡ empty → check_overlay (in_year_zero bytes) overlay ≡ accepted
      go true f = rw f
      go false f =
          let few = (overlay-passed bytes overlay f ok).counted in
          rw (same_count bytes, same-overlay-parts overlay 0 (overlay_count overlay) (omega (arith, few))) ok

  all_pass : (overlays : List (List ℕ)) → check_overlays bytes overlays ≡ accepted → check_overlays (in_year_zero bytes) overlays ≡ accepted
  all_pass [] ok = refl
  all_pass (overlay ∷ rest) ok =
      let b = both (check_overlay bytes overlay) _ ok in
      rw (passes-too overlay b.0) (all_pass rest b.1)

pub accepted-too : (bytes : List ℕ) (overlays : List (List ℕ)) → check_all bytes overlays ≡ accepted → check_all (in_year_zero bytes) overlays ≡ accepted
unfolding check_all
accepted-too bytes overlays ok =
    let e = container-accepted bytes overlays ok in
    rw (same-input bytes e ∙ e) (all_pass bytes e overlays (overlays-accepted bytes overlays ok))
