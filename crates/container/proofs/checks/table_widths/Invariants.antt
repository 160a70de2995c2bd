-- `container::checks::table_widths` meets its contract. Assumes nothing.
use mathlib.Core.Path.{◌≡◌}
use lib.ListN.{length, take}
use Rattle.container.specs.Check.{table_widths}
use Rattle.container.proofs.checks.table_widths.Given as goal

abbrev pub invariant-loop-index : goal.invariant-loop-index
invariant-loop-index l = (length l.widths ≡ 8) × (take l.index l.widths ≡ table_widths l.container 1 l.index)
