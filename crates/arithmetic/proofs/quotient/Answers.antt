-- `arithmetic::quotient` meets its contract: in each case the table's entry is the power of k.
-- Assumes nothing.
use mathlib.Core.Path.{◌≡◌}
use Prim.Native.Nat.{ℕ, ◌^◌, ◌<◌}
use native.Mathlib.Nat.{one-le-pow}
use native.Mathlib.Omega.{arith}
use lib.Dec.{lit<}
use lib.IntN.{ℤ, pos}
use lib.Signed.{quot_z}
use mir.Syntax.{w64}
use mir.Val.{SFits}
use mir.Facts.{to_z-of_z}
use borrow.Author.Tests.{le-leb}
use Rattle.value.proofs.Machine.{back}
use Rattle.value.proofs.Operation.{divides}
use Rattle.arithmetic.proofs.quotient.Goals as goal

-- a division by 10^k; an entry of the table computes to its power
module _ (k : ℕ) {v : ℤ} (f : SFits w64 v) where
  safe : (0 < 10 ^ k) × SFits w64 (quot_z (back v) (pos (10 ^ k)))
  safe = rw (to_z-of_z f) (divides v (pos (10 ^ k)) (le-leb 1 _ (one-le-pow k 10 (lit< tt))) f)

  taken : {m : ℕ} → m ≡ k → back (quot_z (back v) (pos (10 ^ k))) ≡ quot_z v (pos (10 ^ m))
  taken h = rw (h, to_z-of_z safe.1, to_z-of_z f)

pub nonzero_div-result : goal.nonzero_div-result
nonzero_div-result c = safe 1 c.ranges.v

pub nonzero_div-result-in-2 : goal.nonzero_div-result-in-2
nonzero_div-result-in-2 c = safe 2 c.ranges.v

pub nonzero_div-result-in-3 : goal.nonzero_div-result-in-3
nonzero_div-result-in-3 c = safe 3 c.ranges.v

pub nonzero_div-result-in-4 : goal.nonzero_div-result-in-4
nonzero_div-result-in-4 c = safe 4 c.ranges.v

pub nonzero_div-result-in-5 : goal.nonzero_div-result-in-5
nonzero_div-result-in-5 c = safe 5 c.ranges.v

pub nonzero_div-result-in_default : goal.nonzero_div-result-in_default
nonzero_div-result-in_default c = safe 6 c.ranges.v

pub returns-in-1 : goal.returns-in-1
returns-in-1 c = taken 1 c.ranges.v c.in-1.is

pub returns-in-2 : goal.returns-in-2
returns-in-2 c = taken 2 c.ranges.v c.in-2.is

pub returns-in-3 : goal.returns-in-3
returns-in-3 c = taken 3 c.ranges.v c.in-3.is

pub returns-in-4 : goal.returns-in-4
returns-in-4 c = taken 4 c.ranges.v c.in-4.is

pub returns-in-5 : goal.returns-in-5
returns-in-5 c = taken 5 c.ranges.v c.in-5.is

pub returns-in_default : goal.returns-in_default
returns-in_default c =
    let no = c.in_default.in_default-own.rest in
    let is : c.args.k ≡ 6 = omega (arith, no.0.0.0.0.1, no.0.0.0.1, no.0.0.1, no.0.1, no.1, c.requires.0, c.requires.1) in
    taken 6 c.ranges.v is
