-- `group::member::group_values` meets its contract. The loop: what is accumulated is what is left of it, after the members met. Assumes nothing.
use Prim.Native.Nat.{ℕ, ◌+◌, ◌-◌, ◌*◌, ◌≤◌, ◌<◌}
use mathlib.Core.Path.{◌≡◌}
use mathlib.Core.List.{List}
use lib.ListN.{length, get_or, drop}
use Rattle.accumulator.specs.promises.Accumulators.{with_values}
use Rattle.chains.specs.promises.Chains.{Chain, Onward}
use Rattle.group.specs.promises.Members.{chosen, column_values}
use Rattle.cells.specs.promises.Cells.{bare_rows, cells_of}
use Rattle.cells.proofs.Columns.{Walking}
use Rattle.group.proofs.member.group_values.Given as goal

abbrev pub invariant-loop-other : goal.invariant-loop-other
invariant-loop-other l = Walking (length l.values) l.table.at l.table.rows l.table.columns l.column l.other (l.table.at + l.other * l.table.columns) × (l.row < l.other) × Onward l.table.rows l.next × ((leaders labels : List ℕ) → Chain l.table.rows leaders l.next → get_or leaders l.row 0 ≡ l.row → l.table.at + l.table.rows * l.table.columns ≤ length labels → (l.other < l.table.rows → get_or leaders l.other 0 ≡ l.row) × (with_values l.initial.all (column_values l.column (chosen l.row (drop (l.row + 1) leaders) (bare_rows l.table.columns (l.table.rows - (l.row + 1)) (drop (l.table.at + (l.row + 1) * l.table.columns) (cells_of l.values labels))))) ≡ with_values l.all (column_values l.column (chosen l.row (drop l.other leaders) (bare_rows l.table.columns (l.table.rows - l.other) (drop (l.table.at + l.other * l.table.columns) (cells_of l.values labels)))))))

abbrev pub decreases-loop-other : goal.decreases-loop-other
decreases-loop-other l = l.table.rows - l.other
