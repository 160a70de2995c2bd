-- `pairs::rows::join_all` meets its contract. The rows of the first left rows are made, and their marks are written. Assumes nothing.
use Prim.Native.Nat.{◌+◌, ◌-◌, ◌≤◌}
use mathlib.Core.Path.{◌≡◌}
use native.Mathlib.Omega.{arith}
use Rattle.cells.specs.promises.Lent.{memory_held}
use Rattle.memory.specs.promises.Stack.{last_marks}
use Rattle.cells.proofs.Written.{nothing_written, as_long}
use Rattle.pairs.proofs.Same.{same-then}
use Rattle.pairs.proofs.Filling.{filled}
use Rattle.pairs.proofs.Growing.{none_made, passed-on, counted-few}
use Rattle.pairs.proofs.Marks.{over-joined, all-joined, marks-next}
use Rattle.pairs.proofs.Turns.{left-next, lefts-over}
use Rattle.pairs.proofs.rows.join_all.Goals as goal

pub loop-row-init : goal.loop-row-init
loop-row-init c =
    let m = memory_held c.args.cells.now c.args.marks.now in (
      none_made m.work c.requires.fit (omega arith),
      nothing_written m.marks last_marks (omega (arith, c.requires.marks.mark-room)),
      search,
    )

pub returns-in_err-count-clause-joined : goal.returns-in_err-count-clause-joined
returns-in_err-count-clause-joined c =
    let s = c.args.sides in
    let m = memory_held c.args.cells.now c.args.marks.now in
    let more = left-next m.work c.requires.fit c.loop-row.row c.loop-row-test.true c.loop-row.invariant.0 c.in_err-count.ensures.grown in
    rw (passed-on _ c.from_residual.result c.from_residual.ensures.1)
    (over-joined m s.left s.right c.requires.marks c.loop-row.row (omega arith) c.loop-row.invariant.0 c.loop-row.invariant.1
    (lefts-over m.work c.requires.fit (c.loop-row.row + 1) (omega arith) more))

pub bounds-marks-sides : goal.bounds-marks-sides
bounds-marks-sides c = omega (arith, as_long c.loop-row.invariant.1, c.requires.marks.below, c.requires.marks.mark-room)

pub slice_bounds-fill-end : goal.slice_bounds-fill-end
slice_bounds-fill-end c =
    omega (arith, as_long c.loop-row.invariant.1, c.requires.marks.mark-room, counted-few _ c.in_ok-count.ensures.grown.counted)

pub loop-row-preserved : goal.loop-row-preserved
loop-row-preserved c =
    let s = c.args.sides in
    let m = memory_held c.args.cells.now c.args.marks.now in
    let made = c.loop-row.made in
    let count = c.in_ok-count.count in
    let counted = counted-few _ c.in_ok-count.ensures.grown.counted in
    let few : count ≤ 256 = omega (arith, counted.0, counted.1) in
    let on : made ≤ count = omega (arith, counted.0) in
    let more : last_marks + count - (last_marks + made) ≡ count - made = omega (arith, on) in
    let next = left-next m.work c.requires.fit c.loop-row.row c.loop-row-test.true c.loop-row.invariant.0 c.in_ok-count.ensures.grown in
    let marks = filled c.loop-row.marks c.fill.new.self (last_marks + made) (last_marks + count) _
    (omega (arith, on)) (omega (arith, few, c.requires.marks.mark-room, as_long c.loop-row.invariant.1)) (c.fill.ensures.after (λ y e. e)) in (
      next,
      marks-next m s.left s.right c.requires.marks c.loop-row.row (omega arith) c.loop-row.invariant.0 c.loop-row.invariant.1 c.loop-row-test.true next (rw (← more) marks),
      same-then c.loop-row.invariant.2 c.in_ok-count.ensures.same,
    )

pub returns-clause-joined : goal.returns-clause-joined
returns-clause-joined c =
    let s = c.args.sides in
    all-joined (memory_held c.args.cells.now c.args.marks.now) s.left s.right c.requires.marks c.loop-row.row (omega arith) c.loop-row.invariant.0 c.loop-row.invariant.1 (omega arith)
