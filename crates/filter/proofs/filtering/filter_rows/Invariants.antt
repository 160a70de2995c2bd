-- `filter::filtering::filter_rows`: the rows kept so far. Assumes nothing.
use Rattle.cells.specs.promises.Lent.{SameCells, memory_held}
use Rattle.plan.specs.Filter.{passes}
use Rattle.filter.proofs.FilterLoop.{Filtering}
use Rattle.filter.proofs.filtering.filter_rows.Given as goal

abbrev pub invariant-loop-row : goal.invariant-loop-row
invariant-loop-row l = Filtering (passes l.test.column l.test.comparison l.test.operand) l.top (memory_held l.initial.cells l.initial.marks) (memory_held l.cells l.marks) l.kept l.row × SameCells l.initial.cells l.cells
