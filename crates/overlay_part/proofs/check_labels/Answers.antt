-- `overlay_part::check_labels` meets its contract. Assumes nothing.
use native.Mathlib.Omega.{arith}
use Rattle.std.proofs.lemmas.Grind.{common_steps}
use Rattle.overlay_part.specs.Labels.{check_labels}
use Rattle.overlay_part.proofs.check_labels.Goals as goal

pub loop-row-init : goal.loop-row-init
unfolding check_labels
loop-row-init c = grind (arith, common_steps)
