-- `keep::keeping::keep_row`: what is kept of the columns so far. Assumes nothing.
use Rattle.keep.proofs.KeepLoop.{KeepingRow}
use Rattle.cells.specs.promises.Work.{work}
use Rattle.keep.proofs.keeping.keep_row.Given as goal

abbrev pub invariant-loop-column : goal.invariant-loop-column
invariant-loop-column l = KeepingRow l.mask l.from l.to l.columns (work l.initial.values l.initial.labels) (work l.values l.labels) l.next l.column
