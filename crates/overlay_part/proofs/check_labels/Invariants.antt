-- `overlay_part::check_labels` meets its contract. Assumes nothing.
use Prim.Native.Nat.{◌-◌, ◌*◌}
use mathlib.Core.Path.{◌≡◌}
use Rattle.overlay_part.specs.Labels.{check_rows, check_labels}
use Rattle.overlay_part.proofs.check_labels.Given as goal

abbrev pub invariant-loop-row : goal.invariant-loop-row
invariant-loop-row l = check_labels l.part l.at ≡ check_rows l.part l.at (l.row * l.columns) (l.rows - l.row)
