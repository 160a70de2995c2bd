-- The tests of a table, one after the other, and those of another table that follow from them. Assumes nothing.
use Prim.Native.Nat.{ℕ, zero, suc, ◌+◌, ◌<◌}
use mathlib.Core.Path.{◌≡◌, refl}
use mathlib.Core.Bool.{true, not}
use mathlib.Core.List.{List}
use native.Mathlib.Omega.{arith}
use borrow.Author.Tests.{not-false}
use Rattle.input.specs.Verdict.{accepted}
use Rattle.input.proofs.Laws.{both, not_so, passed}
use Rattle.label_words.specs.WellFormed.{well_formed_from}
use Rattle.sheet_check.specs.Sheets.{sheets_fit}
use Rattle.table_check.specs.Checks.{check_cells, check_table}
use Rattle.table_part.specs.TablePart.{cell_count, header_fits, value_place, label_place, value_of, label_of}
use Rattle.value.specs.Range.{in_range}

pub record Tests (least : ℕ) (part : List ℕ) (at : ℕ) : Type 0 where
  pub header : header_fits part ≡ true
  pub cells : check_cells least part at 0 (cell_count part) ≡ accepted
  pub sheets : sheets_fit part ≡ true

module _ (least : ℕ) (part : List ℕ) (at : ℕ) where
  pub tests : check_table least part at ≡ accepted → Tests least part at
  unfolding check_table
  tests e =
      let h = passed (not (header_fits part)) 13 at _ e in
      let c = both (check_cells least part at 0 (cell_count part)) _ h.1 in
      record { header = not-false _ h.0; cells = c.0; sheets = not-false _ (not_so (not (sheets_fit part)) 20 at c.1) }

  pub tested : Tests least part at → check_table least part at ≡ accepted
  unfolding check_table
  tested t = rw (t.header, t.cells, t.sheets)

-- a cell passes 14 and 15
abbrev pub Sound : ℕ → List ℕ → ℕ → Type 0
Sound least part cell = (in_range (value_of part cell) ≡ true) × (well_formed_from least (label_of part cell) ≡ true)

module _ (least : ℕ) (part : List ℕ) (at : ℕ) where
  -- the next cell, and those after it
  pub next-sound : (cell more : ℕ) → check_cells least part at cell (suc more) ≡ accepted → Sound least part cell × (check_cells least part at (suc cell) more ≡ accepted)
  next-sound cell more e =
      let v = passed (not (in_range (value_of part cell))) 14 (at + value_place cell) _ e in
      let w = passed (not (well_formed_from least (label_of part cell))) 15 (at + label_place cell) _ v.1 in
      ((not-false _ v.0, not-false _ w.0), w.1)

  pub cells-again : (least' : ℕ) (new : List ℕ) (cell more : ℕ) → ((k : ℕ) → k < cell + more → Sound least part k → Sound least' new k)
      → check_cells least part at cell more ≡ accepted → check_cells least' new at cell more ≡ accepted
  cells-again least' new cell zero f e = refl
  cells-again least' new cell (suc more) f e =
      let n = next-sound cell more e in
      let s = f cell (omega arith) n.0 in
      rw (s.0, s.1) (cells-again least' new (suc cell) more (λ k h. f k (omega arith)) n.1)
