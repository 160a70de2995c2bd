-- `overlays::check_all` meets its contract: the overlays that are left decide. Assumes nothing.
use mathlib.Core.Path.{◌≡◌}
use mathlib.Core.List.{map}
use lib.ListN.{drop}
use Rattle.overlays.specs.Overlays.{check_all, check_overlays}
use Rattle.overlays.proofs.check_all.Given as goal

abbrev pub invariant-loop-overlay : goal.invariant-loop-overlay
invariant-loop-overlay l =
    check_all l.container (map (λ overlay. overlay.now) l.overlays) ≡ check_overlays l.container (map (λ overlay. overlay.now) (drop l.overlay-index l.overlays))
