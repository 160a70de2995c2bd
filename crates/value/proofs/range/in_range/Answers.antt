-- `value::range::in_range` meets its contract.
-- Assumes nothing.
use mir.Facts.{to_z-of_z}
use Rattle.value.specs.Range.{least, most, in_range}
use Rattle.value.proofs.range.in_range.Goals as goal

pub returns : goal.returns
unfolding in_range least most
returns c = rw (to_z-of_z c.ranges.v)
