-- `floors::raise_labels` meets its contract. Assumes nothing.
use Rattle.std.proofs.Common.{◌≡◌, ◌++◌, take, drop, map}
use Rattle.label_floor.specs.Floor.{floored}
use Rattle.floors.proofs.raise_labels.Given as goal

-- the labels so far with the floor, before the rest as it was
abbrev pub invariant-loop-label : goal.invariant-loop-label
invariant-loop-label l = l.labels ≡ map (floored 1) (take l.label-index l.initial.labels) ++ drop l.label-index l.initial.labels
