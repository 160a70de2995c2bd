-- `walk::steps::take_steps` meets its contract. Assumes nothing.
use mathlib.Core.Path.{◌≡◌}
use lib.ListN.{length}
use mathlib.Core.List.{map}
use Rattle.cells.specs.promises.Lent.{memory_held, SameCells}
use Rattle.demands.specs.Given.{plan_given}
use Rattle.walk.specs.promises.Walk.{given_of, Going}
use Rattle.walk.proofs.steps.take_steps.Given as goal

abbrev pub invariant-loop-index : goal.invariant-loop-index
invariant-loop-index l =
    (l.steps ≡ length (plan_given (given_of l.container l.draws (map (λ overlay. overlay.now) l.overlays))))
    × Going (given_of l.container l.draws (map (λ overlay. overlay.now) l.overlays)) (memory_held l.initial.cells l.initial.marks) l.initial.trace l.index l.used (memory_held l.cells l.marks) l.trace l.stack
    × (length l.trace ≡ length l.initial.trace)
    × SameCells l.initial.cells l.cells
