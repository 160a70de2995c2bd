-- `csv_writer::write::put_digits` meets its contract. The loop's invariant: the last digits are written. Assumes nothing.
use Rattle.csv_writer.proofs.Writing.{DigitsLeft}
use Rattle.csv_writer.proofs.write.put_digits.Given as goal

abbrev pub invariant-loop-rest : goal.invariant-loop-rest
invariant-loop-rest l = DigitsLeft l.initial.text l.at l.n l.text l.left l.rest

abbrev pub decreases-loop-rest : goal.decreases-loop-rest
decreases-loop-rest l = l.left
