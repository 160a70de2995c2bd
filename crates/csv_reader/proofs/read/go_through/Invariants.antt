-- `csv_reader::read::go_through` meets its contract. Assumes nothing.
use Rattle.csv_reader.proofs.Reading.{Reads}
use Rattle.csv_reader.proofs.read.go_through.Given as goal

abbrev pub invariant-loop-i : goal.invariant-loop-i
invariant-loop-i l = Reads l.text l.fewest l.initial.values l.values l.spot l.count l.rows l.i
