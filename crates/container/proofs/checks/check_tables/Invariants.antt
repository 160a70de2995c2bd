-- `container::checks::check_tables` meets its contract. Assumes nothing.
use Rattle.layout.specs.Layout.{part_count}
use Rattle.container.proofs.TablesLeft.{Tables}
use Rattle.container.proofs.checks.check_tables.Given as goal

abbrev pub invariant-loop-index : goal.invariant-loop-index
invariant-loop-index l = Tables l.least l.container (part_count l.container) l.index
