-- `csv_writer::write::put_pair` meets its contract. Assumes nothing.
use Prim.Native.Nat.{◌+◌, ◌/◌, ◌%◌}
use native.Mathlib.Omega.{arith}
use lib.ListN.{length-set}
use Rattle.cells.proofs.Written.{then-written}
use Rattle.csv_writer.specs.promises.Cells.{digit_pairs}
use Rattle.csv_writer.proofs.Digits.{pair-at}
use Rattle.csv_writer.proofs.Writing.{one-put}
use Rattle.csv_writer.proofs.write.put_pair.Goals as goal

pub bounds-text-at-2 : goal.bounds-text-at-2
bounds-text-at-2 c = rw length-set (omega (arith, c.requires.1))

pub returns : goal.returns
unfolding digit_pairs
returns c =
    let a = c.args in
    let p = c.requires in
    let d = pair-at a.pair p.0 in
    rw (d.0, d.1)
    (then-written (one-put a.text.now a.at (48 + a.pair / 10) (omega arith)) (omega arith) (one-put _ (a.at + 1) (48 + a.pair % 10) (rw length-set (omega arith))))
