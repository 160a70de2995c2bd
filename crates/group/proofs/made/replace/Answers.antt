-- `group::made::replace` meets its contract: the rows made are within both slices, so they are moved. Assumes nothing.
use native.Mathlib.Omega.{arith}
use Rattle.cells.specs.promises.Lent.{work_held}
use Rattle.cells.proofs.CellLaws.{values_moved, labels-moved}
use Rattle.group.proofs.Moving.{cells-fit, in-values, in-labels, replaced}
use Rattle.group.proofs.made.replace.Goals as goal

pub overflow_mul-count : goal.overflow_mul-count
overflow_mul-count c =
    omega (arith, cells-fit c.requires.source.0 c.requires.source.1 c.write_groups-count.ensures.done)

pub returns-clause-done : goal.returns-clause-done
returns-clause-done c =
    let p = c.requires.source in
    let made = c.write_groups-count.ensures.done in
    let w = work_held c.write_groups-count.new.cells in
    let e = c.move_cells.ensures in
    let f = c.move_marks.ensures in
    let v = in-values p.0 p.1 made in
    let l = in-labels p.0 p.1 made in
    replaced p.0 p.1 made (values_moved w v l e.value e.values_after e.labels_after) (labels-moved w v l e.value e.values_after e.labels_after) f.value f.marks_after
