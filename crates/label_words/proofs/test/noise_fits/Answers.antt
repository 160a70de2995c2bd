-- `label_words::test::noise_fits` meets its contract. Assumes nothing.
use Rattle.label_words.proofs.Masks.{noise-by-mask}
use Rattle.label_words.proofs.test.noise_fits.Goals as goal

pub returns : goal.returns
returns c = noise-by-mask c.args.word
