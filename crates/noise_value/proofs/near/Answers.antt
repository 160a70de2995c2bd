-- `noise_value::near` meets its contract. Assumes nothing.
use mir.Facts.{to_z-of_z}
use Rattle.noise_value.proofs.near.Goals as goal

pub returns : goal.returns
returns c = rw (to_z-of_z c.ranges.draw)
