-- `comparison::equal` meets its contract.
-- Assumes nothing.
use Rattle.value.specs.Range.{both_in_range}
use Rattle.comparison.specs.Comparison.{equal}
use Rattle.value.proofs.Machine.{said₂, eqb-bits}
use Rattle.comparison.proofs.equal.Goals as goal

pub returns : goal.returns
unfolding equal
returns c =
    let f = c.ranges in
    rw (said₂ both_in_range f.a f.b c.both_in_range.ensures, eqb-bits _ _ f.a f.b)
