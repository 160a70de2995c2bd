-- `overlay_check::check_parts` meets its contract. Assumes nothing.
use Prim.Native.Nat.{◌-◌}
use mathlib.Core.Path.{◌≡◌}
use Rattle.overlay_check.specs.OverlayCheck.{check_part, each_part}
use Rattle.overlay_check.proofs.check_parts.Given as goal

abbrev pub invariant-loop-index : goal.invariant-loop-index
invariant-loop-index l = each_part (check_part l.container l.overlay) 0 l.count ≡ each_part (check_part l.container l.overlay) l.index (l.count - l.index)
