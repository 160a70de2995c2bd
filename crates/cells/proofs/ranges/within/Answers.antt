-- `cells::ranges::within` meets its contract. Assumes nothing.
use borrow.Author.Tests.{lt-leb, le-leb}
use Rattle.cells.proofs.ranges.within.Goals as goal

pub returns-then-length-from : goal.returns-then-length-from
returns-then-length-from c = rw (lt-leb _ _ c.if-length-from.true)

pub returns : goal.returns
returns c = rw (le-leb _ _ c.if-length-from.false)
