-- `layout::part` meets its contract. Assumes nothing.
use mathlib.Core.Path.{sym, ◌∙◌}
use Rattle.layout.proofs.CutOut.{cut_out, no_part}
use Rattle.layout.proofs.part.Goals as goal

pub returns-then-not-has_pair : goal.returns-then-not-has_pair
returns-then-not-has_pair c = no_part c.args.container.now c.args.index _ (sym c.has_pair.ensures ∙ c.if-not-has_pair.true)

pub returns : goal.returns
returns c =
    cut_out c.args.container.now c.args.index _ _ (sym c.has_pair.ensures ∙ c.if-not-has_pair.false)
    (rw (← c.part_offset.ensures) c.min-from.ensures) (rw (← c.part_length.ensures) c.min.ensures)
