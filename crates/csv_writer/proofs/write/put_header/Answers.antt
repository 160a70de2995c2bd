-- `csv_writer::write::put_header` meets its contract. Assumes nothing.
use Prim.Native.Nat.{◌+◌, ◌-◌, ◌*◌, ◌<◌}
use mathlib.Core.Path.{◌≡◌, sym}
use native.Mathlib.Nat.{zero-add}
use native.Mathlib.Omega.{arith}
use lib.ListN.{length, take}
use lib.Seq.{length-take-le}
use Rattle.cells.proofs.Filled.{next-copied}
use Rattle.cells.proofs.Written.{nothing_written, then-written}
use Rattle.csv_text.specs.Text.{names, header}
use Rattle.csv_writer.proofs.write.put_header.Goals as goal

pub loop-i-init : goal.loop-i-init
loop-i-init c = nothing_written c.args.text.now 0 (omega arith)

pub loop-i-preserved : goal.loop-i-preserved
loop-i-preserved c =
    let within : 0 + c.loop-i.i < 23 = omega arith in
    rw zero-add at (next-copied names 0 c.loop-i.i 0 c.loop-i.invariant within (omega arith))

pub returns : goal.returns
unfolding header
returns c =
    let e : c.loop-i.i ≡ 3 * c.args.columns - 1 = omega arith in
    let n : 0 + length (take (3 * c.args.columns - 1) names) ≡ 3 * c.args.columns - 1 = omega (arith, length-take-le (3 * c.args.columns - 1) names (omega arith)) in
    let p = c.put_line_end.ensures in
    (omega (arith, p.0), then-written (rw e at c.loop-i.invariant) (sym n) p.1)
