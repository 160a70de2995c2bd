-- `group::member::group_values` meets its contract. The loop: what is accumulated is what is left of it, after the members met. Assumes nothing.
use Prim.Native.Nat.{◌+◌, ◌-◌, ◌*◌, ◌≤◌}
use mathlib.Core.Path.{◌≡◌, sym, ap, ◌∙◌}
use mathlib.Core.List.{List}
use native.Mathlib.Omega.{arith}
use lib.ListN.{length}
use Rattle.accumulator.specs.promises.Accumulators.{single, with_value, with_values}
use Rattle.group.specs.promises.Members.{column_values}
use Rattle.cells.specs.promises.Cells.{cells_of, row_from}
use Rattle.plan.specs.Table.{Row, cell_at}
use Rattle.group.proofs.Choosing.{next-led, next-left, member-next}
use Rattle.chains.proofs.Reading.{value_read}
use Rattle.group.proofs.Walking.{walk_from, walk-to, inside-other}
use Rattle.cells.proofs.Columns.{inside}
use Rattle.value.proofs.Machine.{back_is}
use Rattle.group.proofs.member.group_values.Goals as goal
use Rattle.group.proofs.member.group_values.Goals.{Start}

-- the group's first row is within the values
first : (c : Start) → let g = c.args.g in g.table.at + c.args.led.row * g.table.columns + g.table.columns ≤ length c.args.values.now
first c = inside (walk_from c.args.g (length c.args.values.now) c.args.led.row c.requires.column_inside (omega arith)) c.requires.row_lt_rows.0

pub overflow_mul-first : goal.overflow_mul-first
overflow_mul-first c = omega (arith, first (goal.at.overflow_mul-first c).Start)

pub overflow_add-first : goal.overflow_add-first
overflow_add-first c = omega (arith, first (goal.at.overflow_add-first c).Start)

pub overflow_add-first-2 : goal.overflow_add-first-2
overflow_add-first-2 c = omega (arith, first (goal.at.overflow_add-first-2 c).Start)

pub offset_bounds-values-first : goal.offset_bounds-values-first
offset_bounds-values-first c = omega (arith, first (goal.at.offset_bounds-values-first c).Start)

pub bounds-values-first : goal.bounds-values-first
bounds-values-first c = omega (arith, first (goal.at.bounds-values-first c).Start)

pub offset_bounds-next-row : goal.offset_bounds-next-row
offset_bounds-next-row c = omega (arith, c.requires.column_inside.few-rows)

pub bounds-next-row : goal.bounds-next-row
bounds-next-row c = omega (arith, c.requires.column_inside.few-rows)

pub loop-other-init : goal.loop-other-init
loop-other-init c =
    let a = c.args in
    let p = c.requires in
    let h = p.row_lt_rows.0 in
    let further = p.row_lt_rows.1.further a.led.row h in (
      walk-to _ (walk_from a.g (length a.values.now) a.led.row p.column_inside (omega arith)) (p.row_lt_rows.1.upto a.led.row h),
      further,
      p.row_lt_rows.1,
      λ leaders labels chain e q.
          let M = cells_of a.values.now labels in
          (next-led chain a.led.row a.g.table.columns a.g.table.at M a.led.row h e, ap (λ (l : List Row). with_values c.single-all.result (column_values a.g.column l)) (next-left chain a.led.row a.g.table.columns a.g.table.at M a.led.row h e)),
    )

pub overflow_mul-place : goal.overflow_mul-place
overflow_mul-place c = omega (arith, inside c.loop-other.invariant.0 c.loop-other-test.true)

pub overflow_add-place : goal.overflow_add-place
overflow_add-place c = omega (arith, inside c.loop-other.invariant.0 c.loop-other-test.true)

pub overflow_add-place-in-loop-other : goal.overflow_add-place-in-loop-other
overflow_add-place-in-loop-other c = omega (arith, inside c.loop-other.invariant.0 c.loop-other-test.true)

pub offset_bounds-values-place : goal.offset_bounds-values-place
offset_bounds-values-place c = omega (arith, inside c.loop-other.invariant.0 c.loop-other-test.true)

pub bounds-values-place : goal.bounds-values-place
bounds-values-place c = omega (arith, inside c.loop-other.invariant.0 c.loop-other-test.true)

pub offset_bounds-next-other : goal.offset_bounds-next-other
offset_bounds-next-other c = omega (arith, c.loop-other.invariant.0.few-rows)

pub bounds-next-other : goal.bounds-next-other
bounds-next-other c = omega (arith, c.loop-other.invariant.0.few-rows)

pub loop-other-smaller : goal.loop-other-smaller
loop-other-smaller c = omega (arith, c.loop-other.invariant.2.further c.loop-other.other c.loop-other-test.true)

pub loop-other-preserved : goal.loop-other-preserved
loop-other-preserved c =
    let a = c.args in
    let i = c.loop-other.invariant in
    let h = c.loop-other-test.true in
    let further = i.2.further c.loop-other.other h in (
      walk-to _ i.0 (i.2.upto c.loop-other.other h),
      omega arith,
      i.2,
      λ leaders labels chain e q.
          let M = cells_of a.values.now labels in
          let t = i.3 leaders labels chain e q in
          let v = value_read a.values.now labels a.g.table.columns (a.g.table.at + c.loop-other.other * a.g.table.columns) a.g.column i.0.has-column (inside i.0 h) (inside-other (length labels) i.0 h q) in
          let more : c.with_value-all.result ≡ with_value c.loop-other.all (cell_at a.g.column (row_from a.g.table.columns M (a.g.table.at + c.loop-other.other * a.g.table.columns))).value
          = c.with_value-all.ensures ∙ ap (with_value c.loop-other.all) (back_is _ c.with_value-arg-1.given ∙ sym v) in
          (next-led chain a.led.row a.g.table.columns a.g.table.at M c.loop-other.other h (t.0 h), t.1 ∙ rw (more, member-next chain a.led.row a.g.table.columns a.g.table.at M c.loop-other.other h (t.0 h))),
    )

pub returns : goal.returns
returns c =
    let a = c.args in
    λ leaders labels chain e q.
    let M = cells_of a.values.now labels in
    let place = a.g.table.at + a.led.row * a.g.table.columns in
    let z : a.g.table.rows - c.loop-other.other ≡ 0 = omega arith in
    let walk = walk_from a.g (length labels) a.led.row q (omega arith) in
    let v = value_read a.values.now labels a.g.table.columns place a.g.column q.has-column (first (goal.at.returns c).Start) (inside walk c.requires.row_lt_rows.0) in
    let start : c.single-all.result ≡ single (cell_at a.g.column (row_from a.g.table.columns M place)).value
    = c.single-all.ensures ∙ ap single (back_is _ c.single-arg-1.given ∙ sym v) in
    rw (← start) (sym (rw z at (c.loop-other.invariant.3 leaders labels chain e q.within).1))
