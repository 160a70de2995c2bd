-- `comparison::less` meets its contract.
-- Assumes nothing.
use mir.Facts.{to_z-of_z}
use Rattle.value.specs.Range.{both_in_range}
use Rattle.comparison.specs.Comparison.{less}
use Rattle.value.proofs.Machine.{said₂}
use Rattle.comparison.proofs.less.Goals as goal

pub returns : goal.returns
unfolding less
returns c =
    let f = c.ranges in
    rw (said₂ both_in_range f.a f.b c.both_in_range.ensures, to_z-of_z f.a, to_z-of_z f.b)
