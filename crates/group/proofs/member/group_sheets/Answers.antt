-- `group::member::group_sheets` meets its contract. The loop: what is counted and what is left make the whole. Assumes nothing.
use Prim.Native.Nat.{◌<◌}
use native.Mathlib.Omega.{arith}
use lib.ListN.{get_or}
use Rattle.group.proofs.Sheets.{count-begins, new-sheet, old-sheet, all-counted}
use Rattle.group.proofs.member.group_sheets.Goals as goal
use Rattle.group.proofs.member.group_sheets.Goals.{In-loop-other, else-not-seen-number, then-not-seen-number}

pub loop-other-init : goal.loop-other-init
loop-other-init c = let p = c.requires.rows_bound in count-begins p.0 p.1 p.3 p.2

-- the number of the row that the loop has come to
small : (c : In-loop-other) → get_or c.args.numbers.now c.loop-other.other 0 < 256
small c = c.requires.by_index c.loop-other.other c.loop-other-test.true

pub offset_bounds-numbers-other : goal.offset_bounds-numbers-other
offset_bounds-numbers-other c = omega (arith, c.loop-other-test.true, c.requires.rows_bound.0)

pub bounds-numbers-other : goal.bounds-numbers-other
bounds-numbers-other c = omega (arith, c.loop-other-test.true, c.requires.rows_bound.0, c.requires.rows_bound.3)

pub bounds-seen-number : goal.bounds-seen-number
bounds-seen-number c = omega (arith, small (goal.at.bounds-seen-number c).In-loop-other, c.loop-other.invariant.long)

pub bounds-seen-number-then-not-seen-number : goal.bounds-seen-number-then-not-seen-number
bounds-seen-number-then-not-seen-number c = omega (arith, small (goal.at.bounds-seen-number-then-not-seen-number c).In-loop-other, c.loop-other.invariant.long)

pub overflow_add-sheets : goal.overflow_add-sheets
overflow_add-sheets c = omega (arith, c.loop-other.invariant.few, c.loop-other.invariant.upto, c.requires.rows_bound.0)

pub offset_bounds-next-other : goal.offset_bounds-next-other
offset_bounds-next-other c = omega (arith, c.loop-other-test.true, c.requires.rows_bound.0)

pub bounds-next-other : goal.bounds-next-other
bounds-next-other c = omega (arith, c.loop-other-test.true, c.requires.rows_bound.0, c.requires.rows_bound.2.full)

pub loop-other-smaller : goal.loop-other-smaller
loop-other-smaller c =
    let o = c.requires.rows_bound.2 in
    omega (arith, o.further c.loop-other.other c.loop-other-test.true, o.upto c.loop-other.other c.loop-other-test.true, c.loop-other-test.true)

pub loop-other-preserved : goal.loop-other-preserved
loop-other-preserved c =
    let p = c.requires.rows_bound in
    elim c.if-not-seen-number.branch [ then-not-seen-number w ↦ rw (w.seen-is, w.sheets-is) (new-sheet p.0 p.1 p.3 p.2 c.loop-other.invariant c.loop-other-test.true (small (goal.at.loop-other-preserved c).In-loop-other) (w.if-not-seen-number.true)) | else-not-seen-number w ↦ rw (w.seen-is, w.sheets-is) (old-sheet p.0 p.1 p.3 p.2 c.loop-other.invariant c.loop-other-test.true (small (goal.at.loop-other-preserved c).In-loop-other) (w.if-not-seen-number.false)) ]

pub returns : goal.returns
returns c = all-counted c.loop-other.invariant c.loop-other-test.false
