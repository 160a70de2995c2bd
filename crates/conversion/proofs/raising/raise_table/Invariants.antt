-- `conversion::raising::raise_table` meets its contract. Assumes nothing.
use Rattle.conversion.specs.Conversion.{ones_among}
use Rattle.conversion.specs.promises.Raising.{Raised}
use Rattle.conversion.proofs.raising.raise_table.Given as goal

abbrev pub invariant-loop-cell : goal.invariant-loop-cell
invariant-loop-cell l = Raised (ones_among l.table l.at 0 l.cell) l.count l.initial.new l.initial.offsets l.found l.new l.offsets
