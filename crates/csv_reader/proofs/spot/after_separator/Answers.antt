-- `csv_reader::spot::after_separator` meets its contract. Assumes nothing.
use mathlib.Core.Path.{sym, ◌∙◌}
use borrow.Author.Tests.{eq-eqb, ne_eqb}
use Rattle.csv_reader.specs.Reader.{digit_of, after_separator}
use Rattle.csv_reader.proofs.Spots.{digit-size}
use Rattle.csv_reader.proofs.spot.after_separator.Goals as goal

pub returns-then-byte-eq45 : goal.returns-then-byte-eq45
unfolding after_separator
returns-then-byte-eq45 c = rw (eq-eqb _ 45 c.if-byte-eq45.true)

pub overflow_sub-result : goal.overflow_sub-result
overflow_sub-result c = (digit-size _ (sym c.is_digit.ensures ∙ c.if-is_digit.true)).0

pub returns-then-is_digit : goal.returns-then-is_digit
unfolding after_separator digit_of
returns-then-is_digit c = rw (ne_eqb _ 45 c.if-byte-eq45.false, sym c.is_digit.ensures ∙ c.if-is_digit.true)

pub returns : goal.returns
unfolding after_separator
returns c = rw (ne_eqb _ 45 c.if-byte-eq45.false, sym c.is_digit.ensures ∙ c.if-is_digit.false)
