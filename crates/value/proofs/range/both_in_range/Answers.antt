-- `value::range::both_in_range` meets its contract.
-- Assumes nothing.
use Rattle.value.specs.Range.{in_range, both_in_range}
use Rattle.value.proofs.Machine.{said}
use Rattle.value.proofs.range.both_in_range.Goals as goal

pub returns : goal.returns
unfolding both_in_range
returns c =
    let f = c.ranges in
    rw (said in_range f.a c.in_range.ensures, said in_range f.b c.in_range-2.ensures)
