-- `rounding::floored` meets its contract.
-- Assumes nothing.
use mathlib.Core.Path.{◌≡◌, ◌∙◌}
use Prim.Native.Nat.{ℕ, ◌<◌}
use native.Mathlib.Omega.{arith}
use lib.IntN.{ℤ, pos}
use lib.Signed.{mag, quot_z}
use mir.Syntax.{w64}
use mir.Val.{SFits, to_z}
use mir.Facts.{to_z-of_z, to_z_pos}
use borrow.Author.Rules.{sfits_of}
use borrow.Author.Tests.{le-leb}
use Rattle.value.specs.Division.{floored}
use Rattle.value.proofs.Folded.{dividend-is, dividend-fits, quotient_is, mag-turned}
use Rattle.value.proofs.Machine.{back, answered}
use Rattle.value.proofs.Operation.{divides}
use Rattle.rounding.proofs.floored.Goals as goal
use Rattle.rounding.proofs.floored.Goals.{After-folded}

module _ (c : After-folded) where
  abbrev v : ℤ
  v = c.args.total

  abbrev n : ℕ
  n = c.args.rows

  rows : to_z w64 n ≡ pos n
  rows = to_z_pos w64 (omega arith)

  size : back c.folded.result ≡ pos (mag v)
  size = dividend-is c.ranges.total c.folded.type_inv c.folded.ensures

  size-fits : SFits w64 (pos (mag v))
  size-fits = dividend-fits c.ranges.total c.folded.type_inv c.folded.ensures

  safe : (0 < n) × SFits w64 (quot_z (pos (mag v)) (pos n))
  safe = divides (pos (mag v)) (pos n) (le-leb 1 n c.requires) size-fits

  quotient : back (quot_z (back c.folded.result) (to_z w64 n)) ≡ quot_z (pos (mag v)) (pos n)
  quotient = rw (size, rows) (to_z-of_z safe.1)

pub nonzero_div-q : goal.nonzero_div-q
nonzero_div-q c = rw (size c, rows c) (safe c)

pub overflow_sub-q : goal.overflow_sub-q
overflow_sub-q c = rw (quotient c) (sfits_of (rw (mag-turned (quot_z (pos (mag (v c))) (pos (n c)))) (safe c).1.sfits))

pub returns : goal.returns
unfolding floored
returns c =
    answered c.chosen.type_inv c.chosen.ensures
    ∙ rw (to_z-of_z (overflow_sub-q (goal.at.returns c).After-folded), quotient (goal.at.returns c).After-folded, to_z-of_z c.ranges.total) (quotient_is (v (goal.at.returns c).After-folded) (n (goal.at.returns c).After-folded))
