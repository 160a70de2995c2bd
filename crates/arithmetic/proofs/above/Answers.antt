-- `arithmetic::above` meets its contract.
-- Assumes nothing.
use mathlib.Core.Path.{◌≡◌, ◌∙◌}
use lib.IntN.{ℤ, pos}
use lib.Signed.{mag, rem_z}
use mir.Syntax.{w64}
use mir.Val.{SFits}
use mir.Facts.{to_z-of_z}
use Rattle.value.specs.Division.{floored}
use Rattle.value.proofs.Folded.{dividend-is, dividend-fits, above-is, one_less_fits, counted-fits}
use Rattle.value.proofs.Machine.{back, answered}
use Rattle.value.proofs.Operation.{divides, back-rest}
use Rattle.arithmetic.proofs.above.Goals as goal
use Rattle.arithmetic.proofs.above.Goals.{After-folded}

module _ (c : After-folded) where
  abbrev k : ℤ
  k = c.args.k

  abbrev v : ℤ
  v = c.args.v

  size : back c.folded.result ≡ pos (mag v)
  size = dividend-is c.ranges.v c.folded.type_inv c.folded.ensures

  size-fits : SFits w64 (pos (mag v))
  size-fits = dividend-fits c.ranges.v c.folded.type_inv c.folded.ensures

  rest : back (rem_z (back c.folded.result) (back k)) ≡ rem_z (pos (mag v)) k
  rest = rw (size, to_z-of_z c.ranges.k) (back-rest k size-fits)

pub nonzero_rem-r : goal.nonzero_rem-r
nonzero_rem-r c = rw (size c, to_z-of_z c.ranges.k) (divides _ (k c) c.requires (size-fits c))

pub overflow_sub-k : goal.overflow_sub-k
overflow_sub-k c = rw (to_z-of_z c.ranges.k) (one_less_fits (k c) c.requires c.ranges.k)

pub overflow_sub-k-2 : goal.overflow_sub-k-2
overflow_sub-k-2 c =
    rw (rest c, to_z-of_z (overflow_sub-k c), to_z-of_z c.ranges.k) (counted-fits (k c) (v c) c.requires c.ranges.k)

pub returns : goal.returns
unfolding floored
returns c =
    answered c.chosen.type_inv c.chosen.ensures
    ∙ rw (to_z-of_z (overflow_sub-k-2 (goal.at.returns c).After-folded), to_z-of_z (overflow_sub-k (goal.at.returns c).After-folded), rest (goal.at.returns c).After-folded, to_z-of_z c.ranges.k, to_z-of_z c.ranges.v)
    (above-is (k (goal.at.returns c).After-folded) (v (goal.at.returns c).After-folded) c.requires)
