-- `csv_reader::spot::after_digits` meets its contract. Assumes nothing.
use mathlib.Core.Path.{sym, ◌∙◌}
use mathlib.Core.Bool.{and-eq-true_iff}
use native.Mathlib.Omega.{arith}
use borrow.Author.Tests.{ltb-true}
use Rattle.csv_reader.specs.Reader.{after_digits}
use Rattle.csv_reader.proofs.Spots.{taken, not_taken}
use Rattle.csv_reader.proofs.spot.after_digits.Goals as goal

pub returns-in-Some : goal.returns-in-Some
unfolding after_digits
returns-in-Some c = let t = taken _ c.in-Some.ensures in rw (t.0, t.1)

pub returns-then-left-byte : goal.returns-then-left-byte
unfolding after_digits
returns-then-left-byte c = rw (not_taken _ _ (sym c.in_default.is ∙ c.with_digit.ensures), c.if-left-byte.true)

pub overflow_sub-result : goal.overflow_sub-result
overflow_sub-result c = omega (arith, ltb-true 1 c.args.left ((and-eq-true_iff _ _).0 c.if-left-byte-2.true).0)

pub returns-then-left-byte-2 : goal.returns-then-left-byte-2
unfolding after_digits
returns-then-left-byte-2 c = rw (not_taken _ _ (sym c.in_default.is ∙ c.with_digit.ensures), c.if-left-byte.false, c.if-left-byte-2.true)

pub returns : goal.returns
unfolding after_digits
returns c = rw (not_taken _ _ (sym c.in_default.is ∙ c.with_digit.ensures), c.if-left-byte.false, c.if-left-byte-2.false)
