-- `table_check::checking::check_cells` meets its contract. Assumes nothing.
use Rattle.table_check.proofs.CellsLeft.{Cells}
use Rattle.table_check.proofs.checking.check_cells.Given as goal

abbrev pub invariant-loop-cell : goal.invariant-loop-cell
invariant-loop-cell l = Cells l.least l.table l.at l.count l.cell
