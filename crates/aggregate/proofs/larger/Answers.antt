-- `aggregate::larger` meets its contract.
-- Assumes nothing.
use mir.Facts.{to_z-of_z}
use Rattle.aggregate.specs.Aggregate.{larger}
use Rattle.value.proofs.Machine.{back_is}
use Rattle.aggregate.proofs.larger.Goals as goal

pub returns : goal.returns
unfolding larger
returns c =
    let f = c.ranges in
    rw (back_is c.of_two.result c.of_two.type_inv) (rw (to_z-of_z f.a, to_z-of_z f.b) at c.of_two.ensures)
