-- A search depends on the columns that it wants only below the table's width. Assumes nothing.
use Prim.Native.Nat.{ℕ, zero, suc, ◌+◌, ◌≤◌, ◌<◌}
use mathlib.Core.Path.{◌≡◌, refl, ap, ap₂}
use mathlib.Core.Bool.{Bool, not, ◌&&◌}
use mathlib.Core.List.{List, [], ◌∷◌}
use native.Mathlib.Omega.{arith}
use lib.ListN.{length, take, drop, length-take}
use Rattle.cells.specs.promises.Cells.{grid_of}
use Rattle.plan.specs.Table.{clear}
use Rattle.plan.specs.Verdict.{or_else, refuse_if, first_not_clear, not_clear}

module _ (f g : ℕ → Bool) (same : (c : ℕ) → c < 8 → f c ≡ g c) (number : ℕ) where
  row_same : (column row : ℕ) (labels : List ℕ) → column + length labels ≤ 8 → first_not_clear f number column row labels ≡ first_not_clear g number column row labels
  row_same column row [] h = refl
  row_same column row (label ∷ rest) h =
      ap₂ or_else (ap (λ (b : Bool). refuse_if (b && not (clear label)) number row column) (same column (omega arith))) (row_same (suc column) row rest (omega arith))

  pub search-same : (columns rows row : ℕ) (labels : List ℕ) → columns ≤ 8 → not_clear f number row (grid_of columns rows labels) ≡ not_clear g number row (grid_of columns rows labels)
  search-same columns zero row labels h = refl
  search-same columns (suc rows) row labels h =
      ap₂ or_else (row_same 0 row (take columns labels) (simp length-take (omega arith))) (search-same columns rows (suc row) (drop columns labels) h)
