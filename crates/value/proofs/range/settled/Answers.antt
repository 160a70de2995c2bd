-- `value::range::settled` meets its contract.
-- Assumes nothing.
use mir.Facts.{to_z-of_z}
use Rattle.value.specs.Range.{in_range, OVER, settled}
use Rattle.value.proofs.Machine.{back_is, said}
use Rattle.value.proofs.range.settled.Goals as goal

pub returns : goal.returns
unfolding settled OVER
returns c =
    let v = c.ranges.v in
    rw (back_is c.chosen.result c.chosen.type_inv, c.chosen.ensures, said in_range v c.in_range.ensures, to_z-of_z v)
