-- `csv_writer::write::put_rows` meets its contract. Assumes nothing.
use Prim.Native.Nat.{◌≤◌}
use lib.ListN.{drop}
use Rattle.csv_writer.specs.promises.Cells.{spelled}
use Rattle.csv_writer.proofs.Writing.{Sofar}
use Rattle.csv_writer.proofs.write.put_rows.Given as goal

abbrev pub invariant-loop-value : goal.invariant-loop-value
invariant-loop-value l =
    (1 ≤ l.left) × Sofar (spelled l.columns l.columns l.values) l.initial.text l.at l.text l.to (spelled l.columns l.left (drop l.value-index l.values))
