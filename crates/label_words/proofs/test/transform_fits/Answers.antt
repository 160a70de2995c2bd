-- `label_words::test::transform_fits` meets its contract. Assumes nothing.
use native.Mathlib.Omega.{arith}
use Rattle.label_words.proofs.Masks.{transform-by-mask}
use Rattle.label_words.proofs.Words.{field_lt}
use Rattle.label_words.proofs.test.transform_fits.Goals as goal

pub overflow_add-digits_lack : goal.overflow_add-digits_lack
overflow_add-digits_lack c = omega (arith, c.field.ensures, field_lt c.args.word 10 3)

pub returns : goal.returns
returns c = rw (c.field.ensures, c.bit.ensures) (transform-by-mask c.args.word)
