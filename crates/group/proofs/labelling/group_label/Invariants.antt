-- `group::labelling::group_label` meets its contract. The loop: the composition is what is left of it, after the members met. Assumes nothing.
use Prim.Native.Nat.{ℕ, ◌+◌, ◌-◌, ◌*◌, ◌≤◌, ◌<◌}
use mathlib.Core.Path.{◌≡◌}
use mathlib.Core.List.{List, ◌∷◌}
use lib.IntN.{ℤ}
use lib.ListN.{length, get_or, drop}
use Rattle.chains.specs.promises.Chains.{Chain, Onward}
use Rattle.group.specs.promises.Members.{chosen, Allowed, column_labels}
use Rattle.cells.specs.promises.Cells.{bare_rows, cells_of, row_from}
use Rattle.plan.specs.Group.{composed_after}
use Rattle.plan.specs.Table.{Each}
use Rattle.group.proofs.Labels.{Composing}
use Rattle.cells.proofs.Columns.{Walking}
use Rattle.group.proofs.labelling.group_label.Given as goal

abbrev pub invariant-loop-other : goal.invariant-loop-other
invariant-loop-other l = Walking (length l.labels) l.table.at l.table.rows l.table.columns l.column l.other (l.table.at + l.other * l.table.columns) × (l.row < l.other) × Onward l.table.rows l.next × (l.code < 5) × ((leaders : List ℕ) (values : List ℤ) → Chain l.table.rows leaders l.next → get_or leaders l.row 0 ≡ l.row → l.table.at + l.table.rows * l.table.columns ≤ length values → Each (Allowed l.column) (bare_rows l.table.columns (l.table.rows - l.row) (drop (l.table.at + l.row * l.table.columns) (cells_of values l.labels))) → (l.other < l.table.rows → get_or leaders l.other 0 ≡ l.row) × Composing l.code l.size l.column (composed_after l.code l.size 0 (column_labels l.column (row_from l.table.columns (cells_of values l.labels) (l.table.at + l.row * l.table.columns) ∷ chosen l.row (drop (l.row + 1) leaders) (bare_rows l.table.columns (l.table.rows - (l.row + 1)) (drop (l.table.at + (l.row + 1) * l.table.columns) (cells_of values l.labels)))))) l.all (chosen l.row (drop l.other leaders) (bare_rows l.table.columns (l.table.rows - l.other) (drop (l.table.at + l.other * l.table.columns) (cells_of values l.labels)))))

abbrev pub decreases-loop-other : goal.decreases-loop-other
decreases-loop-other l = l.table.rows - l.other
