-- `floors::raise_labels` meets its contract. Assumes nothing.
use Rattle.std.proofs.Common.{get_or, sym, arith}
use Rattle.std.proofs.lemmas.Grind.{get_or_default_zero}
use Rattle.std.proofs.lemmas.List.Edits.{map_over_more}
use Rattle.label_floor.specs.Floor.{floored}
use Rattle.floors.proofs.raise_labels.Goals as goal

pub loop-label-preserved : goal.loop-label-preserved
loop-label-preserved c =
    let before = c.args.labels.now in
    let labels = c.loop-label.labels in
    let i = c.loop-label.label-index in
    rw c.raise_minimum.ensures (map_over_more (floored 1) before labels i (get_or labels i 0) (omega arith) c.loop-label.invariant (sym (get_or_default_zero labels i _ (omega arith))))
