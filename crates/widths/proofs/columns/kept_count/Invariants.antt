-- `widths::columns::kept_count`: the count so far. Assumes nothing.
use Rattle.std.proofs.Common.{◌≡◌}
use Rattle.plan.specs.Keep.{kept_count}
use Rattle.widths.proofs.columns.kept_count.Given as goal

abbrev pub invariant-loop-column : goal.invariant-loop-column
invariant-loop-column l = l.count ≡ kept_count l.mask l.column
