-- `overlay_part::check_row` meets its contract. Assumes nothing.
use Prim.Native.Nat.{◌-◌, ◌+◌}
use mathlib.Core.Path.{◌≡◌}
use Rattle.overlay_part.specs.Labels.{check_row}
use Rattle.overlay_part.proofs.check_row.Given as goal

abbrev pub invariant-loop-column : goal.invariant-loop-column
invariant-loop-column l = check_row l.part l.at l.first 0 l.columns ≡ check_row l.part l.at (l.first + l.column) l.column (l.columns - l.column)
