-- `label_bytes::test::well_formed` meets its contract. Assumes nothing.
use Prim.Native.Nat.{◌<◌}
use mathlib.Core.Path.{sym, ◌∙◌}
use native.Mathlib.Omega.{arith}
use Rattle.label_words.specs.WellFormed.{minimum_fits}
use Rattle.label_words.proofs.Words.{field_lt}
use Rattle.label_bytes.proofs.Bytes.{bytes_fit}
use Rattle.label_bytes.proofs.test.well_formed.Goals as goal
use Rattle.label_bytes.proofs.test.well_formed.Goals.{After-field}

pub returns-then-not-first_fits : goal.returns-then-not-first_fits
returns-then-not-first_fits c =
    rw (bytes_fit c.args.label.now 0 c.fits-label, sym c.first_fits.ensures ∙ c.if-not-first_fits.true)

pub returns-then-not-second_fits : goal.returns-then-not-second_fits
returns-then-not-second_fits c =
    rw (bytes_fit c.args.label.now 0 c.fits-label, sym c.first_fits.ensures ∙ c.if-not-first_fits.false, sym c.second_fits.ensures ∙ c.if-not-second_fits.true)

pub returns-then-not-third_fits : goal.returns-then-not-third_fits
returns-then-not-third_fits c =
    rw (bytes_fit c.args.label.now 0 c.fits-label, sym c.first_fits.ensures ∙ c.if-not-first_fits.false, sym c.second_fits.ensures ∙ c.if-not-second_fits.false, sym c.third_fits.ensures ∙ c.if-not-third_fits.true)

upper-small : (c : After-field) → c.field.result < 4
upper-small c = rw c.field.ensures (field_lt _ 0 2)

pub overflow_mul-field : goal.overflow_mul-field
overflow_mul-field c = omega (arith, upper-small c)

pub overflow_add-field : goal.overflow_add-field
overflow_add-field c = omega (arith, upper-small (goal.at.overflow_add-field c).After-field, c.fits-label 0)

pub returns : goal.returns
unfolding minimum_fits
returns c =
    rw (bytes_fit c.args.label.now 0 c.fits-label, sym c.first_fits.ensures ∙ c.if-not-first_fits.false, sym c.second_fits.ensures ∙ c.if-not-second_fits.false, sym c.third_fits.ensures ∙ c.if-not-third_fits.false)
    (rw (c.within.ensures, c.field.ensures, c.bit.ensures))
