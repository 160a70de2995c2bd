-- `apply_refusal::refusal` meets its contract. The loop: the verdict is that of the rows that are left. Assumes nothing.
use Prim.Native.Nat.{◌+◌, ◌*◌}
use Rattle.plan.specs.Apply.{apply_row}
use Rattle.memory.proofs.RefusedRows.{RowsPassed}
use Rattle.apply_refusal.proofs.refusal.Given as goal

abbrev pub invariant-loop-row : goal.invariant-loop-row
invariant-loop-row l = RowsPassed (apply_row l.column l.transform) l.labels l.table l.column l.row (l.table.at + l.row * l.table.columns)
