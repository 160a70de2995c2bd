-- `filter::filtering::Test::read_by` meets its contract. Assumes nothing.
use Rattle.cells.proofs.Masks.{one-column, two-columns}
use Rattle.operand.proofs.Laws.{column-below}
use Rattle.filter.proofs.filtering.Test.read_by.Goals as goal

pub returns-in-Constant : goal.returns-in-Constant
returns-in-Constant c = λ i h. rw c.in-Constant.is (one-column _ i c.requires.0 h)

pub returns-in-Column : goal.returns-in-Column
returns-in-Column c = λ i h. rw c.in-Column.is (two-columns _ _ i c.requires.0 (column-below 8 c.in-Column.is c.requires.1) h)
