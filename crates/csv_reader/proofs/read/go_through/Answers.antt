-- `csv_reader::read::go_through` meets its contract. Assumes nothing.
use mathlib.Core.Path.{◌≡◌, refl, sym, ◌∙◌}
use native.Mathlib.Omega.{arith}
use lib.ListN.{length}
use Rattle.cells.proofs.Written.{as_long}
use Rattle.csv_reader.proofs.Reading.{reads-begins, reads-size, reads-next, reads-stops, reads-ends}
use Rattle.csv_reader.proofs.read.go_through.Goals as goal

pub loop-i-init : goal.loop-i-init
loop-i-init c = let a = c.args in reads-begins a.text.now a.fewest a.values.now

pub shape_of-values-then-is_wrong : goal.shape_of-values-then-is_wrong
shape_of-values-then-is_wrong c = as_long c.loop-i.invariant.written

pub returns-then-is_wrong : goal.returns-then-is_wrong
returns-then-is_wrong c =
    reads-stops c.loop-i.invariant c.loop-i-test.true refl c.next-then.ensures (sym c.is_wrong.ensures ∙ c.if-is_wrong.true)

pub put_ended-count-requires : goal.put_ended-count-requires
put_ended-count-requires c =
    let s = c.loop-i.invariant in (omega (arith, s.few, c.loop-i-test.true), reads-size s)

pub overflow_add-rows : goal.overflow_add-rows
overflow_add-rows c =
    omega (arith, c.loop-i.invariant.few-rows, c.loop-i-test.true, c.rows_ended-rows.ensures.1)

pub loop-i-preserved : goal.loop-i-preserved
loop-i-preserved c =
    reads-next c.loop-i.invariant c.loop-i-test.true refl c.next-then.ensures (sym c.is_wrong.ensures ∙ c.if-is_wrong.false)
    c.put_ended-count.ensures.0 c.put_ended-count.ensures.1 c.rows_ended-rows.ensures.0

pub shape_of-values : goal.shape_of-values
shape_of-values c = as_long c.loop-i.invariant.written

pub returns : goal.returns
returns c =
    let end : c.loop-i.i ≡ length c.args.text.now = omega arith in
    rw (c.at_end.ensures, ← end) (reads-ends c.loop-i.invariant c.loop-i-test.false)
