-- `label_words::test::stage_count` meets its contract. Assumes nothing.
use Rattle.label_words.proofs.Words.{count-is}
use Rattle.label_words.proofs.test.stage_count.Goals as goal

pub returns : goal.returns
returns c = count-is c.args.word c.ranges.word.fits
