-- `csv_writer::length::separator_length` meets its contract. Assumes nothing.
use mathlib.Core.Path.{sym, ap}
use native.Mathlib.Omega.{arith}
use lib.ListN.{length}
use Rattle.csv_writer.proofs.Cells.{last-separator, other-separator}
use Rattle.csv_writer.proofs.length.separator_length.Goals as goal

pub returns-then-left-eq1 : goal.returns-then-left-eq1
returns-then-left-eq1 c = (sym (ap length (last-separator _ c.if-left-eq1.true)), omega arith)

pub returns-else-left-eq1 : goal.returns-else-left-eq1
returns-else-left-eq1 c = (sym (ap length (other-separator _ c.if-left-eq1.false)), omega arith)
