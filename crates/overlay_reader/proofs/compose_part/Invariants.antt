-- `overlay_reader::compose_part` meets its contract. Assumes nothing.
use mathlib.Core.Path.{◌≡◌}
use mathlib.Core.List.{◌++◌}
use lib.ListN.{take, drop}
use Rattle.overlay_reader.specs.promises.Composing.{composed_labels}
use Rattle.overlay_reader.proofs.compose_part.Given as goal

abbrev pub invariant-loop-cell : goal.invariant-loop-cell
invariant-loop-cell l = l.labels ≡ composed_labels l.part 0 (take l.cell l.initial.labels) ++ drop l.cell l.initial.labels
