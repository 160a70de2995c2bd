-- The cells of a table part. Assumes nothing.
use Prim.Native.Nat.{ℕ, zero, suc, ◌+◌, ◌<◌}
use mathlib.Core.Path.{◌≡◌, refl, sym, ap, ◌∙◌}
use mathlib.Core.List.{List}
use native.Mathlib.Nat.{add-zero, add-suc, suc-add, le_of_suc-le-suc, not-suc-le-zero}
use lib.ListN.{length, get_or}
use Rattle.table_part.specs.TablePart.{value_of, label_of, cells_from}
use Rattle.plan.specs.Table.{blank}

pub cells-length : (part : List ℕ) (cell n : ℕ) → length (cells_from part cell n) ≡ n
cells-length part cell zero = refl
cells-length part cell (suc n) = ap suc (cells-length part (suc cell) n)

-- a cell so many behind one
pub cell-there : (part : List ℕ) (cell n i : ℕ) → i < n → get_or (cells_from part cell n) i blank ≡ record { value = value_of part (cell + i); label = label_of part (cell + i) }
cell-there part cell zero i h = absurd (not-suc-le-zero h)
cell-there part cell (suc n) zero h = rw (add-zero cell)
cell-there part cell (suc n) (suc i) h = rw (add-suc cell i ∙ sym (suc-add cell i)) (cell-there part (suc cell) n i (le_of_suc-le-suc h))
