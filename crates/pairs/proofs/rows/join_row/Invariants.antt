-- `pairs::rows::join_row` meets its contract. The rows of the first right rows are made. Assumes nothing.
use Prim.Native.Nat.{◌+◌, ◌-◌, ◌*◌, ◌≤◌}
use mathlib.Core.Path.{◌≡◌}
use Rattle.std.specs.Prelude.{Ok}
use Rattle.cells.specs.promises.Lent.{work_held, SameCells}
use Rattle.pairs.proofs.Turns.{Paired}
use Rattle.pairs.proofs.rows.join_row.Given as goal

abbrev pub invariant-loop-i : goal.invariant-loop-i
invariant-loop-i l =
    (l.i ≤ l.right.table.rows) × (l.other ≡ l.right.table.at + l.i * l.right.table.columns) × (l.at + l.left.table.columns ≤ 6144)
    × Paired l.left l.right (work_held l.initial.cells) l.made l.at l.i (Ok l.count) (work_held l.cells) × SameCells l.initial.cells l.cells

abbrev pub decreases-loop-i : goal.decreases-loop-i
decreases-loop-i l = l.right.table.rows - l.i
