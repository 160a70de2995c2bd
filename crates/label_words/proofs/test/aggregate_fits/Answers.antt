-- `label_words::test::aggregate_fits` meets its contract. Assumes nothing.
use native.Mathlib.Omega.{arith}
use Rattle.label_words.proofs.Masks.{aggregate-by-mask}
use Rattle.label_words.proofs.test.aggregate_fits.Goals as goal

pub returns : goal.returns
returns c = aggregate-by-mask c.args.word c.args.least (omega (arith, c.ranges.least.fits))
