-- `directory::check_directory` meets its contract. Assumes nothing.
use Rattle.directory.proofs.Pairs.{Pairs}
use Rattle.directory.proofs.check_directory.Given as goal

abbrev pub invariant-loop-index : goal.invariant-loop-index
invariant-loop-index l = Pairs l.bytes l.count l.index l.place l.expected
