-- What the machine's operations on values ask, and what comes of them.
-- Assumes nothing.
use mathlib.Core.Path.{◌≡◌, refl}
use mathlib.Core.Bool.{Bool, true, false, cond, false≢true}
use Prim.Native.Nat.{◌<◌}
use lib.Dec.{lit<}
use lib.IntN.{ℤ, pos, negsuc}
use lib.Signed.{mag_rem, le_z, quot_z, rem_z}
use mir.Syntax.{w64}
use mir.Val.{SFits, of_z}
use mir.ValLaws.{sfits_le}
use mir.Facts.{to_z-of_z}
use borrow.Author.Rules.{sfits_of}
use borrow.Author.Tests.{leb-true}
use Rattle.value.specs.Range.{OVER, settled}
use Rattle.value.proofs.Integers.{mag-quot}
use Rattle.value.proofs.Machine.{back}
use Rattle.value.proofs.Laws.Range.{over-out, settled-out}

-- a remainder fits where the number does
pub back-rest : {v : ℤ} (d : ℤ) → SFits w64 v → back (rem_z v d) ≡ rem_z v d
back-rest {v} d f = to_z-of_z (sfits_le (mag_rem v d) f)

-- a division by a positive number is safe
pub divides : (v k : ℤ) → le_z (pos 1) k ≡ true → SFits w64 v → (0 < of_z w64 k) × SFits w64 (quot_z v k)
divides v (pos n) p f = (leb-true 1 n p, sfits_le (mag-quot v n) f)
divides v (negsuc n) p f = absurd (false≢true p)

-- the operands that code chooses: a and b where t holds, else OVER and 0, of which the operation makes OVER
module _ (op : ℤ → ℤ → ℤ) (over : op OVER (pos 0) ≡ OVER) where
  pub operands-fit : (t : Bool) (a b : ℤ) → (t ≡ true → SFits w64 (op a b)) → SFits w64 (op (cond t a OVER) (cond t b (pos 0)))
  unfolding OVER
  operands-fit true a b f = f refl
  operands-fit false a b f = rw over (sfits_of (lit< tt))

  pub operands-settled : (t : Bool) (a b : ℤ) → settled (op (cond t a OVER) (cond t b (pos 0))) ≡ cond t (settled (op a b)) OVER
  operands-settled true a b = refl
  operands-settled false a b = rw over (settled-out OVER over-out)
