-- `label_words::test::highest_stage` meets its contract. Assumes nothing.
use native.Mathlib.Omega.{arith}
use Rattle.label_words.proofs.Words.{zeros-above, highest-at, highest-clear}
use Rattle.label_words.proofs.test.highest_stage.Goals as goal

pub overflow_sub-above : goal.overflow_sub-above
overflow_sub-above c = zeros-above c.args.word c.ranges.word.fits

pub returns-in-0 : goal.returns-in-0
returns-in-0 c = highest-at c.args.word c.ranges.word.fits 0 c.in-0.is

pub returns-in-1 : goal.returns-in-1
returns-in-1 c = highest-at c.args.word c.ranges.word.fits 1 c.in-1.is

pub returns-in-2 : goal.returns-in-2
returns-in-2 c = highest-at c.args.word c.ranges.word.fits 2 c.in-2.is

pub returns-in-3 : goal.returns-in-3
returns-in-3 c = highest-at c.args.word c.ranges.word.fits 3 c.in-3.is

pub returns-in_default : goal.returns-in_default
returns-in_default c = highest-clear c.args.word c.ranges.word.fits (omega arith)
