-- `csv_writer::length::text_length` meets its contract. The loop's invariant: the text is as long as what is
-- counted and what is left of it. Assumes nothing.
use Prim.Native.Nat.{◌+◌, ◌*◌, ◌≤◌}
use mathlib.Core.Path.{◌≡◌}
use lib.ListN.{length, drop}
use Rattle.csv_text.specs.Text.{text_of, cut}
use Rattle.csv_writer.specs.promises.Cells.{spelled}
use Rattle.csv_writer.proofs.length.text_length.Given as goal

abbrev pub invariant-loop-value : goal.invariant-loop-value
invariant-loop-value l =
    (1 ≤ l.left) × (l.bytes ≤ 25 + 22 * l.value-index)
    × (length (text_of l.columns (cut l.columns l.rows l.values)) ≡ l.bytes + length (spelled l.columns l.left (drop l.value-index l.value-items)))
