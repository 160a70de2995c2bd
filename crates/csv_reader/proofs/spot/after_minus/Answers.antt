-- `csv_reader::spot::after_minus` meets its contract. Assumes nothing.
use mathlib.Core.Path.{sym, ◌∙◌}
use mathlib.Core.Bool.{and-eq-true_iff}
use Rattle.csv_reader.specs.Reader.{digit_of, after_minus}
use Rattle.csv_reader.proofs.Spots.{digit-size}
use Rattle.csv_reader.proofs.spot.after_minus.Goals as goal

pub overflow_sub-result : goal.overflow_sub-result
overflow_sub-result c = (digit-size _ (sym c.is_digit.ensures ∙ ((and-eq-true_iff _ _).0 c.if-is_digit-byte.true).0)).0

pub returns-then-is_digit-byte : goal.returns-then-is_digit-byte
unfolding after_minus digit_of
returns-then-is_digit-byte c = rw (← c.is_digit.ensures, c.if-is_digit-byte.true)

pub returns : goal.returns
unfolding after_minus
returns c = rw (← c.is_digit.ensures, c.if-is_digit-byte.false)
