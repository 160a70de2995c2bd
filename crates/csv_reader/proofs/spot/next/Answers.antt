-- `csv_reader::spot::next` meets its contract. Assumes nothing.
use Rattle.csv_reader.specs.Reader.{next_spot}
use Rattle.csv_reader.proofs.spot.next.Goals as goal

pub returns-in-Names : goal.returns-in-Names
unfolding next_spot
returns-in-Names c = rw c.in-Names.is c.after_names.ensures

pub returns-in-Header : goal.returns-in-Header
unfolding next_spot
returns-in-Header c = rw c.in-Header.is c.after_return.ensures

pub returns-in-Value : goal.returns-in-Value
unfolding next_spot
returns-in-Value c = rw c.in-Value.is c.after_separator.ensures

pub returns-in-Minus : goal.returns-in-Minus
unfolding next_spot
returns-in-Minus c = rw c.in-Minus.is c.after_minus.ensures

pub returns-in-Digits : goal.returns-in-Digits
unfolding next_spot
returns-in-Digits c = rw c.in-Digits.is c.after_digits.ensures

pub returns-in-Row : goal.returns-in-Row
unfolding next_spot
returns-in-Row c = rw c.in-Row.is c.after_return-in-Row.ensures

pub returns-in-Wrong : goal.returns-in-Wrong
unfolding next_spot
returns-in-Wrong c = rw c.in-Wrong.is
