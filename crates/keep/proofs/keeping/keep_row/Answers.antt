-- `keep::keeping::keep_row` meets its contract. Assumes nothing.
use Rattle.keep.proofs.KeepLoop.{row-begins, cell-kept, cell-left}
use Rattle.cells.proofs.Masks.{bit-one, bit-none}
use Rattle.value.proofs.Machine.{back_is}
use Rattle.keep.proofs.keeping.keep_row.Goals as goal
use Rattle.keep.proofs.keeping.keep_row.Goals.{else-mask-column-eq1, then-mask-column-eq1}

pub loop-column-init : goal.loop-column-init
loop-column-init c =
    let p = c.requires in
    row-begins p.0 p.2 p.3 p.4

pub loop-column-preserved : goal.loop-column-preserved
loop-column-preserved c =
    let a = c.args in
    let p = c.requires in
    let h = c.loop-column-test.true in
    elim c.if-mask-column-eq1.branch [ then-mask-column-eq1 w ↦ rw (w.values-is, w.labels-is, w.next-is, back_is _ w.values-then-mask-column-eq1-1.given) (cell-kept p.0 p.2 p.3 p.4 c.loop-column.invariant h (bit-one a.mask c.loop-column.column w.if-mask-column-eq1.true)) | else-mask-column-eq1 w ↦ rw (w.values-is, w.labels-is, w.next-is) (cell-left p.0 p.2 p.3 p.4 c.loop-column.invariant h (bit-none a.mask c.loop-column.column w.if-mask-column-eq1.false)) ]
