-- `csv_reader::spot::after_return` meets its contract. Assumes nothing.
use borrow.Author.Tests.{eq-eqb, ne_eqb}
use Rattle.csv_reader.specs.Reader.{after_return}
use Rattle.csv_reader.proofs.spot.after_return.Goals as goal

pub returns-then-byte : goal.returns-then-byte
unfolding after_return
returns-then-byte c = rw (eq-eqb _ 10 c.if-byte.true)

pub returns-else-byte : goal.returns-else-byte
unfolding after_return
returns-else-byte c = rw (ne_eqb _ 10 c.if-byte.false)
