-- `group_refusal::forbidden` meets its contract. The loop: the search is what is left of it, after the rows passed. Assumes nothing.
use Prim.Native.Nat.{◌+◌, ◌*◌}
use Rattle.group_refusal.specs.promises.Refusals.{forbids_at}
use Rattle.memory.proofs.RefusedRows.{RowsPassed}
use Rattle.group_refusal.proofs.forbidden.Given as goal

abbrev pub invariant-loop-row : goal.invariant-loop-row
invariant-loop-row l = RowsPassed (forbids_at l.column) l.labels l.table l.column l.row (l.table.at + l.row * l.table.columns)
