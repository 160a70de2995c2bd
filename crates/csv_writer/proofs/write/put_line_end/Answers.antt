-- `csv_writer::write::put_line_end` meets its contract. Assumes nothing.
use Prim.Native.Nat.{◌+◌}
use mathlib.Core.Path.{refl}
use native.Mathlib.Omega.{arith}
use lib.ListN.{length-set}
use Rattle.cells.proofs.Written.{then-written}
use Rattle.csv_writer.proofs.Writing.{one-put}
use Rattle.csv_writer.proofs.write.put_line_end.Goals as goal

pub returns : goal.returns
returns c =
    let a = c.args in
    let p = c.requires in (
      refl,
      then-written (one-put a.text.now a.at 13 (omega arith)) (omega arith) (one-put _ (a.at + 1) 10 (rw length-set (omega arith))),
    )
