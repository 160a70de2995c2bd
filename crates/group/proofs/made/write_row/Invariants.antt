-- `group::made::write_row` meets its contract. The loop: the keys among the columns passed are written. Assumes nothing.
use Prim.Native.Nat.{◌+◌, ◌*◌, ◌<◌}
use mathlib.Core.Path.{◌≡◌}
use Rattle.cells.specs.promises.Cells.{row_from}
use Rattle.cells.specs.promises.Work.{work, cells_in, room, Kept}
use Rattle.cells.specs.promises.Written.{CellsWritten}
use Rattle.plan.specs.Keep.{kept_count, kept_cells}
use Rattle.group.proofs.made.write_row.Given as goal

abbrev pub invariant-loop-column : goal.invariant-loop-column
invariant-loop-column l =
    (l.place < room) × (l.place ≡ l.to + kept_count l.fn.g.keys l.column)
    × CellsWritten (work l.initial.values l.initial.labels) l.to (kept_cells l.fn.g.keys l.column (row_from l.fn.g.table.columns (cells_in (work l.initial.values l.initial.labels)) (l.fn.g.table.at + l.fn.row * l.fn.g.table.columns))) (work l.values l.labels)
    × Kept (work l.initial.values l.initial.labels) (work l.values l.labels)
