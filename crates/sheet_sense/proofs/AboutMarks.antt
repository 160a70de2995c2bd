-- Marks of their own differ, and are no sheet numbers. Assumes nothing.
use Prim.Native.Nat.{ℕ}
use mathlib.Core.Path.{◌≡◌}
use mathlib.Core.Bool.{true, false, true≢false}
use native.Mathlib.Omega.{arith}
use lib.IntN.{ℤ, pos, negsuc}
use Rattle.plan.specs.Sheets.{own_mark}
use Rattle.value.specs.Pattern.{negative, magnitude_of}
use Rattle.value.specs.Range.{in_range}
use Rattle.value.proofs.Sizes.{in_size}
use Rattle.sheet_sense.specs.Marks.{MarksOfTheirOwn}

no-sheet-number : (value : ℤ) (table row : ℕ) → in_range value ≡ true → negative value ≡ false → ¬ (magnitude_of value ≡ own_mark table row)
unfolding own_mark negative magnitude_of
no-sheet-number (pos n) table row i s e = omega (arith, in_size (pos n) i)
no-sheet-number (negsuc n) table row i s e = true≢false s

pub marks-of-their-own : MarksOfTheirOwn
unfolding own_mark
marks-of-their-own = (λ table row table' row' h h' e. (omega arith, omega arith), no-sheet-number)
