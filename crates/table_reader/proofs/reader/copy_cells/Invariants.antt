-- `table_reader::reader::copy_cells` meets its contract. Assumes nothing.
use mathlib.Core.Path.{◌≡◌}
use lib.Seq.{paste}
use Rattle.table_reader.proofs.CellsRead.{news}
use Rattle.table_reader.proofs.reader.copy_cells.Given as goal

abbrev pub invariant-loop-cell : goal.invariant-loop-cell
invariant-loop-cell l =
    (l.values ≡ paste l.initial.values l.at (news (λ cell. cell.value) l.table l.count) l.cell) ×
    (l.labels ≡ paste l.initial.labels l.at (news (λ cell. cell.label) l.table l.count) l.cell)
