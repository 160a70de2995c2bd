-- `csv_reader::read::put_one` meets its contract. Assumes nothing.
use mathlib.Core.Path.{refl}
use mir.Facts.{to_z-of_z}
use borrow.Author.Tests.{lt-ltb, le-ltb}
use Rattle.csv_reader.proofs.read.put_one.Goals as goal
use Rattle.csv_reader.proofs.read.put_one.Goals.{then-count-values, else-count-values}

pub returns : goal.returns
returns c = (
  refl,
  elim c.if-count-values.branch [
    | then-count-values w ↦ rw (w.values-is, lt-ltb _ _ w.if-count-values.true, to_z-of_z c.ranges.value) refl
    | else-count-values w ↦ rw (w.values-is, le-ltb _ _ w.if-count-values.false) refl
  ],
)
