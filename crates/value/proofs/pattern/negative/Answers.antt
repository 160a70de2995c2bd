-- `value::pattern::negative` meets its contract.
-- Assumes nothing.
use mir.Facts.{to_z-of_z}
use Rattle.value.specs.Pattern.{negative}
use Rattle.value.proofs.pattern.negative.Goals as goal

pub returns : goal.returns
unfolding negative
returns c = rw (to_z-of_z c.ranges.v)
