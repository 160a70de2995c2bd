-- `comparison::greater` meets its contract.
-- Assumes nothing.
use Rattle.comparison.specs.Comparison.{less, greater}
use Rattle.value.proofs.Machine.{said₂}
use Rattle.comparison.proofs.greater.Goals as goal

pub returns : goal.returns
unfolding greater
returns c = said₂ less c.ranges.b c.ranges.a c.less.ensures
