-- `aggregate::of_two` meets its contract.
-- Assumes nothing.
use mathlib.Core.Path.{ap, ◌∙◌}
use mathlib.Core.Bool.{cond}
use mir.Facts.{to_z-of_z}
use Rattle.value.specs.Range.{both_in_range, OVER, of_both}
use Rattle.value.proofs.Machine.{answered, said₂}
use Rattle.aggregate.proofs.of_two.Goals as goal

pub returns : goal.returns
unfolding of_both OVER
returns c =
    let tested = said₂ both_in_range c.ranges.a c.ranges.b c.both_in_range.ensures in
    let first = answered c.chosen.type_inv c.chosen.ensures in
    answered c.chosen-2.type_inv (c.chosen-2.ensures ∙ ap (λ z. cond c.both_in_range.result z OVER) first)
    ∙ rw (tested, to_z-of_z c.ranges.a, to_z-of_z c.ranges.b)
