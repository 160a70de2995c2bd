-- `widths::columns::kept_count` meets its contract. Assumes nothing.
use native.Mathlib.Numerals.{add-one}
use native.Mathlib.Omega.{arith}
use Rattle.plan.specs.Masks.{in_mask}
use Rattle.widths.proofs.Laws.{kept-le, kept_more}
use Rattle.widths.proofs.columns.kept_count.Goals as goal

pub overflow_add-count : goal.overflow_add-count
overflow_add-count c = omega (arith, kept-le c.args.mask c.loop-column.column)

pub loop-column-preserved : goal.loop-column-preserved
unfolding in_mask
loop-column-preserved c = rw (add-one c.loop-column.column, kept_more c.args.mask c.loop-column.column, ← c.loop-column.invariant)
