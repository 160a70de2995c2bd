-- `keep::keeping::keep_rows`: what is kept of the rows so far. Assumes nothing.
use Rattle.std.proofs.Common.{◌+◌, ◌*◌}
use Rattle.cells.specs.promises.Lent.{SameCells, work_held}
use Rattle.keep.proofs.KeepLoop.{KeepingRows}
use Rattle.keep.proofs.keeping.keep_rows.Given as goal

abbrev pub invariant-loop-row : goal.invariant-loop-row
invariant-loop-row l = KeepingRows l.mask l.top (work_held l.initial.cells) (work_held l.cells) (l.top.at + l.row * l.top.columns) l.to l.row × SameCells l.initial.cells l.cells
