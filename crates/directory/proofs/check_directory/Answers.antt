-- `directory::check_directory` meets its contract. Assumes nothing.
use native.Mathlib.Omega.{arith}
use Rattle.directory.proofs.Pairs.{begin, misplaced, keep}
use Rattle.directory.proofs.check_directory.Goals as goal

pub loop-index-init : goal.loop-index-init
loop-index-init c = begin _ _ (omega arith)

pub returns-then-part_offset-expected : goal.returns-then-part_offset-expected
returns-then-part_offset-expected c =
    misplaced c.loop-index.invariant c.part_offset.result c.loop-index-test.true
    c.part_offset.ensures c.if-part_offset-expected.true

pub loop-index-preserved : goal.loop-index-preserved
loop-index-preserved c =
    keep c.loop-index.invariant c.part_offset.result c.part_length.result
    c.loop-index-test.true c.part_offset.ensures c.if-part_offset-expected.false c.part_length.ensures
    (omega arith)
