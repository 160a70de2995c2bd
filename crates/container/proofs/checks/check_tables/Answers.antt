-- `container::checks::check_tables` meets its contract. Assumes nothing.
use mathlib.Core.Path.{ap₂, ◌∙◌}
use native.Mathlib.Omega.{arith}
use Rattle.table_check.specs.Checks.{check_table}
use Rattle.container.proofs.TablesLeft.{keep}
use Rattle.container.proofs.checks.check_tables.Goals as goal

pub loop-index-preserved : goal.loop-index-preserved
loop-index-preserved c =
    keep c.loop-index.invariant (omega arith)
    (c.in_ok-check_table.ensures ∙ ap₂ (check_table c.args.least) c.part.ensures c.part_offset.ensures)
