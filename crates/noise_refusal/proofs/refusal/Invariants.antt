-- `noise_refusal::refusal` meets its contract. The loop: the verdict is that of the rows that are left. Assumes nothing.
use Prim.Native.Nat.{◌+◌, ◌*◌}
use Rattle.plan.specs.Noise.{noise_row}
use Rattle.memory.proofs.RefusedRows.{RowsPassed}
use Rattle.noise_refusal.proofs.refusal.Given as goal

abbrev pub invariant-loop-row : goal.invariant-loop-row
invariant-loop-row l = RowsPassed (noise_row l.column l.left) l.labels l.table l.column l.row (l.table.at + l.row * l.table.columns)
