-- `rounding::remainder` meets its contract.
-- Assumes nothing.
use mathlib.Core.Path.{◌≡◌, ◌∙◌}
use Prim.Native.Nat.{ℕ}
use native.Mathlib.Omega.{arith}
use lib.IntN.{ℤ, pos}
use lib.Signed.{mag, rem_z}
use mir.Syntax.{w64}
use mir.Val.{SFits, to_z}
use mir.Facts.{to_z-of_z, to_z_pos}
use borrow.Author.Rules.{sfits_of}
use borrow.Author.Tests.{le-leb}
use Rattle.value.specs.Division.{floored}
use Rattle.value.proofs.Folded.{dividend-is, dividend-fits, remainder_is, one_less_fits, counted-fits}
use Rattle.value.proofs.Machine.{back, answered}
use Rattle.value.proofs.Operation.{divides, back-rest}
use Rattle.rounding.proofs.Distances.{distance-floor}
use Rattle.rounding.proofs.remainder.Goals as goal
use Rattle.rounding.proofs.remainder.Goals.{After-folded}

module _ (c : After-folded) where
  abbrev v : ℤ
  v = c.args.total

  abbrev n : ℕ
  n = c.args.rows

  rows : to_z w64 n ≡ pos n
  rows = to_z_pos w64 (omega arith)

  size : back c.folded.result ≡ pos (mag v)
  size = dividend-is c.ranges.total c.folded.type_inv c.folded.ensures

  size-fits : SFits w64 (pos (mag v))
  size-fits = dividend-fits c.ranges.total c.folded.type_inv c.folded.ensures

  rows_fit : SFits w64 (pos n)
  rows_fit = sfits_of (omega arith)

  rest : back (rem_z (back c.folded.result) (to_z w64 n)) ≡ rem_z (pos (mag v)) (pos n)
  rest = rw (size, rows) (back-rest (pos n) size-fits)

pub nonzero_rem-r : goal.nonzero_rem-r
nonzero_rem-r c = rw (size c, rows c) (divides (pos (mag (v c))) (pos (n c)) (le-leb 1 (n c) c.requires) (size-fits c))

pub overflow_sub-n : goal.overflow_sub-n
overflow_sub-n c = rw (rows c) (one_less_fits (pos (n c)) (le-leb 1 (n c) c.requires) (rows_fit c))

pub overflow_sub-n-2 : goal.overflow_sub-n-2
overflow_sub-n-2 c =
    rw (rest c, to_z-of_z (overflow_sub-n c), rows c) (counted-fits (pos (n c)) (v c) (le-leb 1 (n c) c.requires) (rows_fit c))

pub returns : goal.returns
unfolding floored
returns c =
    answered c.chosen.type_inv c.chosen.ensures
    ∙ rw (to_z-of_z (overflow_sub-n-2 (goal.at.returns c).After-folded), to_z-of_z (overflow_sub-n (goal.at.returns c).After-folded), rest (goal.at.returns c).After-folded, rows (goal.at.returns c).After-folded, to_z-of_z c.ranges.total, distance-floor (v (goal.at.returns c).After-folded) c.requires)
    (remainder_is (v (goal.at.returns c).After-folded) c.requires)
