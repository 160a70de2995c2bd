-- `csv_writer::length::next_left` meets its contract. Assumes nothing.
use mathlib.Core.Path.{sym}
use Rattle.csv_writer.proofs.Cells.{last-left, other-left}
use Rattle.csv_writer.proofs.length.next_left.Goals as goal

pub returns-then-left-eq1 : goal.returns-then-left-eq1
returns-then-left-eq1 c = sym (last-left _ _ c.if-left-eq1.true)

pub returns-else-left-eq1 : goal.returns-else-left-eq1
returns-else-left-eq1 c = sym (other-left _ _ c.if-left-eq1.false)
