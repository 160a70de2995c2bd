-- `join::joining::make_table` meets its contract. Assumes nothing.
use native.Mathlib.Omega.{arith}
use Rattle.cells.specs.promises.Lent.{work_held, memory_held}
use Rattle.pairs.proofs.Fitting.{sides-fit, marks-fit}
use Rattle.cells.proofs.CellLaws.{values_moved, labels-moved}
use Rattle.join.proofs.Ending.{finished-over, rows-values, rows-labels, finished-made, refusal-is}
use Rattle.pairs.proofs.Growing.{few-made}
use Rattle.memory.proofs.Stacks.{fits-slot}
use Rattle.join.proofs.joining.make_table.Goals as goal

pub returns-in_err-made-clause-finished : goal.returns-in_err-made-clause-finished
returns-in_err-made-clause-finished c =
    let f = c.requires.fit.0 in
    let b = c.requires.marks.0 in
    let m = memory_held c.args.cells.now c.args.marks.now in
    rw (refusal-is c.from_residual.ensures.1)
    (finished-over m f b (c.in_err-made.ensures.joined.joined (rw (sides-fit _ _ c.args.sides.left c.args.sides.right f) (marks-fit _ c.args.sides.left b))))

pub overflow_mul-made : goal.overflow_mul-made
overflow_mul-made c =
    let f = c.requires.fit.0 in
    let j = c.in_ok-made.ensures.joined.joined (rw (sides-fit _ _ c.args.sides.left c.args.sides.right f) (marks-fit _ c.args.sides.left c.requires.marks.0)) in
    omega (arith, fits-slot c.in_ok-made.made c.args.columns (few-made (work_held c.args.cells.now) f j.grown) (omega (arith, c.requires.fit.1, f.few)))

pub returns-clause-finished : goal.returns-clause-finished
returns-clause-finished c =
    let f = c.requires.fit.0 in
    let b = c.requires.marks.0 in
    let m = memory_held c.args.cells.now c.args.marks.now in
    let w = work_held c.join_rows.new.cells in
    let j = c.in_ok-made.ensures.joined.joined (rw (sides-fit _ _ c.args.sides.left c.args.sides.right f) (marks-fit _ c.args.sides.left b)) in
    let v = rows-values m f b j in
    let l = rows-labels m f b j in
    let down = rw c.requires.fit.1 at c.move_cells.ensures in
    rw (values_moved w v l down.value down.values_after down.labels_after, labels-moved w v l down.value down.values_after down.labels_after)
    (finished-made m f b j c.requires.marks.1 c.move_marks.ensures.value c.move_marks.ensures.marks_after)
