-- `overlaying::overlay_step` meets its contract: the overlays that are left are composed yet. Assumes nothing.
use mathlib.Core.Path.{◌≡◌}
use mathlib.Core.List.{map}
use lib.ListN.{drop}
use Rattle.overlaying.specs.promises.Overlaying.{after_overlays}
use Rattle.overlaying.proofs.overlay_step.Given as goal

abbrev pub invariant-loop-overlay : goal.invariant-loop-overlay
invariant-loop-overlay l =
    after_overlays (map (λ overlay. overlay.now) l.overlays) l.table l.live l.initial.labels
    ≡ after_overlays (map (λ overlay. overlay.now) (drop l.overlay-index l.overlays)) l.table l.live l.labels
