-- `rounding::average` meets its contract.
-- Assumes nothing.
use borrow.Author.Rules.{sfits_of}
use borrow.Author.Tests.{lt-ltb, le-ltb}
use Rattle.value.specs.Range.{OVER, settled}
use Rattle.rounding.specs.Rounding.{rounded, average}
use Rattle.value.proofs.Machine.{back_is, said}
use Rattle.rounding.proofs.average.Goals as goal

pub returns-then-rows-gt0 : goal.returns-then-rows-gt0
unfolding average
returns-then-rows-gt0 c =
    let q = said (λ t. rounded t c.args.rows) c.ranges.total c.rounded.ensures in
    let e = said settled {v = c.rounded.result} (sfits_of c.rounded.type_inv) c.settled.ensures in
    rw (lt-ltb _ _ c.if-rows-gt0.true, back_is c.settled.result c.settled.type_inv, e, q)

pub returns-else-rows-gt0 : goal.returns-else-rows-gt0
unfolding average OVER
returns-else-rows-gt0 c = rw (le-ltb _ _ c.if-rows-gt0.false)
