-- `label_words::test::well_formed_from` meets its contract. Assumes nothing.
use borrow.Author.Tests.{lt-ltb}
use Rattle.label_words.specs.WellFormed.{well_formed_from}
use Rattle.label_words.proofs.Masks.{reserved-by-mask}
use Rattle.label_words.proofs.test.well_formed_from.Goals as goal

pub returns : goal.returns
unfolding well_formed_from
returns c =
    rw (lt-ltb _ _ c.ranges.word.fits, c.noise_fits.ensures, c.aggregate_fits.ensures, c.transform_fits.ensures, reserved-by-mask c.args.word)
