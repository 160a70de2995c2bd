-- `csv_writer::write::put_separator` meets its contract. Assumes nothing.
use mathlib.Core.Path.{refl, ap}
use native.Mathlib.Omega.{arith}
use lib.ListN.{length}
use Rattle.csv_writer.proofs.Cells.{last-separator, other-separator}
use Rattle.csv_writer.proofs.Writing.{one-put}
use Rattle.csv_writer.proofs.write.put_separator.Goals as goal

pub put_line_end-requires : goal.put_line_end-requires
put_line_end-requires c =
    omega (arith, c.requires, ap length (last-separator c.args.left c.if-left-eq1.true))

pub returns-then-left-eq1 : goal.returns-then-left-eq1
returns-then-left-eq1 c =
    rw (last-separator c.args.left c.if-left-eq1.true) c.put_line_end.ensures

pub bounds-text-at : goal.bounds-text-at
bounds-text-at c =
    omega (arith, c.requires, ap length (other-separator c.args.left c.if-left-eq1.false))

pub returns : goal.returns
returns c =
    let a = c.args in
    rw (other-separator a.left c.if-left-eq1.false) (refl, one-put a.text.now a.at 44 (bounds-text-at c))
