-- `kinds::tables::enough_tables` meets its contract. Assumes nothing.
use borrow.Author.Tests.{ne_eqb}
use Rattle.kinds.proofs.Laws.{enough-is}
use Rattle.kinds.proofs.tables.enough_tables.Goals as goal

pub returns-then-taken-eq0 : goal.returns-then-taken-eq0
returns-then-taken-eq0 c = rw (enough-is c.args.step c.args.depth, ← c.takes-taken.ensures, c.if-taken-eq0.true)

pub returns-else-taken-eq0 : goal.returns-else-taken-eq0
returns-else-taken-eq0 c = rw (enough-is c.args.step c.args.depth, ← c.takes-taken.ensures, ne_eqb _ 0 c.if-taken-eq0.false)
