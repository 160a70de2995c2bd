-- `csv_reader::spot::largest` meets its contract. Assumes nothing.
use Rattle.csv_reader.specs.Reader.{largest}
use Rattle.csv_reader.proofs.spot.largest.Goals as goal

pub returns-then-negative : goal.returns-then-negative
unfolding largest
returns-then-negative c = rw c.if-negative.true

pub returns-else-negative : goal.returns-else-negative
unfolding largest
returns-else-negative c = rw c.if-negative.false
