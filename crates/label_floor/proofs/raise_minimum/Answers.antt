-- `label_floor::raise_minimum` meets its contract. Assumes nothing.
use native.Mathlib.Omega.{arith}
use Rattle.label_floor.proofs.FloorMasks.{below-ten, from-ten}
use Rattle.label_floor.proofs.raise_minimum.Goals as goal

pub returns-then-label-lt10 : goal.returns-then-label-lt10
returns-then-label-lt10 c = below-ten c.args.label c.ranges.label.fits (omega arith)

pub returns-else-label-lt10 : goal.returns-else-label-lt10
returns-else-label-lt10 c = from-ten c.args.label (omega arith)
