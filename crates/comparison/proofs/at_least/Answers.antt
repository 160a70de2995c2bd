-- `comparison::at_least` meets its contract.
-- Assumes nothing.
use Rattle.comparison.specs.Comparison.{at_most, at_least}
use Rattle.value.proofs.Machine.{said₂}
use Rattle.comparison.proofs.at_least.Goals as goal

pub returns : goal.returns
unfolding at_least
returns c = said₂ at_most c.ranges.b c.ranges.a c.at_most.ensures
