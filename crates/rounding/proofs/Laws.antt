-- The average: a value or OVER, and the rounded quotient where that is in range.
-- Assumes nothing.
use mathlib.Core.Path.{◌≡◌}
use mathlib.Core.Bool.{true}
use Prim.Native.Nat.{ℕ, ◌<◌}
use lib.Dec.{ltb}
use lib.IntN.{ℤ}
use borrow.Author.Tests.{lt-ltb}
use Rattle.value.specs.Range.{in_range, settled}
use Rattle.rounding.specs.Rounding.{rounded, average}
use Rattle.value.proofs.Laws.Range.{Result, guarded, settled-result, settled-in}

pub average-result : (total : ℤ) (rows : ℕ) → Result (average total rows)
unfolding average
average-result total rows = guarded (ltb 0 rows) (settled (rounded total rows)) (λ e. settled-result (rounded total rows))

pub average-exact : (total : ℤ) {rows : ℕ} → 0 < rows → in_range (rounded total rows) ≡ true → average total rows ≡ rounded total rows
unfolding average
average-exact total {rows} p e = rw (lt-ltb 0 rows p) (settled-in (rounded total rows) e)
