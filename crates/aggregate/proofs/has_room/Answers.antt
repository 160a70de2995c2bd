-- `aggregate::has_room` meets its contract.
-- Assumes nothing.
use mir.Facts.{to_z-of_z}
use Rattle.aggregate.specs.Aggregate.{has_room}
use Rattle.aggregate.proofs.has_room.Goals as goal

pub returns : goal.returns
unfolding has_room
returns c = rw (to_z-of_z c.ranges.total)
