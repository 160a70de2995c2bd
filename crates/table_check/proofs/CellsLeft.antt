-- The check of a table's cells, at one cell. Assumes nothing.
use Prim.Native.Nat.{ℕ, suc, ◌+◌, ◌-◌, ◌≤◌, ◌<◌}
use mathlib.Core.Path.{◌≡◌, ◌∙◌}
use mathlib.Core.Bool.{true, false, not}
use mathlib.Core.List.{List}
use native.Mathlib.Nat.{sub-zero}
use native.Mathlib.Numerals.{add-one}
use native.Mathlib.Omega.{arith}
use Rattle.input.specs.Verdict.{rejected, and_then, reject_if}
use Rattle.label_words.specs.WellFormed.{well_formed_from}
use Rattle.table_check.specs.Checks.{check_cells}
use Rattle.table_part.specs.TablePart.{value_place, label_place, value_of, label_of}
use Rattle.value.specs.Range.{in_range}
use Rattle.input.proofs.Laws.{one_left}

-- the cells before one are as they should be: what is left of the check
pub record Cells (least : ℕ) (part : List ℕ) (at count cell : ℕ) : Type 0 where
  pub done : cell ≤ count
  pub left : check_cells least part at 0 count ≡ check_cells least part at cell (count - cell)

pub begin : (least : ℕ) (part : List ℕ) (at count : ℕ) → Cells least part at count 0
begin least part at count = record { done = omega arith; left = rw (sub-zero count) }

module _ {least : ℕ} {part : List ℕ} {at count cell : ℕ} (p : Cells least part at count cell) where
  cell-left : cell < count
      → check_cells least part at 0 count
      ≡ and_then (reject_if (not (in_range (value_of part cell))) 14 (at + value_place cell))
      (and_then (reject_if (not (well_formed_from least (label_of part cell))) 15 (at + label_place cell)) (check_cells least part at (suc cell) (count - suc cell)))
  cell-left h = p.left ∙ rw (one_left cell count h)

  pub wrong-value : cell < count → in_range (value_of part cell) ≡ false → rejected 14 (at + value_place cell) ≡ check_cells least part at 0 count
  wrong-value h v = rw (cell-left h, v)

  pub wrong-label : cell < count → in_range (value_of part cell) ≡ true → well_formed_from least (label_of part cell) ≡ false
      → rejected 15 (at + label_place cell) ≡ check_cells least part at 0 count
  wrong-label h v l = rw (cell-left h, v, l)

  pub keep : cell < count → in_range (value_of part cell) ≡ true → well_formed_from least (label_of part cell) ≡ true → Cells least part at count (cell + 1)
  keep h v l = record { done = omega arith; left = rw (add-one cell, cell-left h, v, l) }
