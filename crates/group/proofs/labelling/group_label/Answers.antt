-- `group::labelling::group_label` meets its contract. The loop: the composition is what is left of it, after the members met. Assumes nothing.
use Prim.Native.Nat.{◌+◌, ◌-◌, ◌*◌, ◌≤◌, ◌<◌}
use mathlib.Core.Path.{◌≡◌, sym}
use native.Mathlib.Omega.{arith}
use lib.ListN.{length, drop}
use Rattle.group.specs.promises.Members.{Allowed}
use Rattle.label_composition.specs.Composition.{composed}
use Rattle.label_discharge.specs.Discharge.{after_a}
use Rattle.cells.specs.promises.Cells.{bare_rows, cells_of, row_from}
use Rattle.plan.specs.Table.{cell_at}
use Rattle.group.proofs.Choosing.{next-led, next-left, member-next, each_chosen}
use Rattle.group.proofs.Labels.{none-composed, label-taken}
use Rattle.group_refusal.proofs.Laws.{few-codes}
use Rattle.chains.proofs.Leading.{rows_next}
use Rattle.chains.proofs.Reading.{label-read}
use Rattle.group.proofs.Walking.{walk_from, walk-to, inside-other}
use Rattle.cells.proofs.Columns.{inside}
use Rattle.label_laws.proofs.Laws.{zero-well-formed}
use Rattle.group.proofs.labelling.group_label.Goals as goal
use Rattle.group.proofs.labelling.group_label.Goals.{Start}

-- the group's first row is within the labels
first : (c : Start) → let g = c.args.g in g.table.at + c.args.led.row * g.table.columns + g.table.columns ≤ length c.args.labels.now
first c = inside (walk_from c.args.g (length c.args.labels.now) c.args.led.row c.requires.column_inside (omega arith)) c.requires.row_lt_rows.0

pub overflow_mul-first : goal.overflow_mul-first
overflow_mul-first c = omega (arith, first (goal.at.overflow_mul-first c).Start)

pub overflow_add-first : goal.overflow_add-first
overflow_add-first c = omega (arith, first (goal.at.overflow_add-first c).Start)

pub overflow_add-first-2 : goal.overflow_add-first-2
overflow_add-first-2 c = omega (arith, first (goal.at.overflow_add-first-2 c).Start)

pub offset_bounds-labels-first : goal.offset_bounds-labels-first
offset_bounds-labels-first c = omega (arith, first (goal.at.offset_bounds-labels-first c).Start)

pub bounds-labels-first : goal.bounds-labels-first
bounds-labels-first c = omega (arith, first (goal.at.bounds-labels-first c).Start)

pub offset_bounds-next-row : goal.offset_bounds-next-row
offset_bounds-next-row c = omega (arith, c.requires.column_inside.few-rows)

pub bounds-next-row : goal.bounds-next-row
bounds-next-row c = omega (arith, c.requires.column_inside.few-rows)

pub loop-other-init : goal.loop-other-init
loop-other-init c =
    let a = c.args in
    let p = c.requires in
    let h = p.row_lt_rows.0 in
    let few : c.aggregate_code-code.result < 5 = rw c.aggregate_code-code.ensures (few-codes a.g.aggregate) in
    let place = a.g.table.at + a.led.row * a.g.table.columns in
    let k : a.g.table.at + (a.led.row + 1) * a.g.table.columns ≡ place + a.g.table.columns = omega arith in
    let walk = walk_from a.g (length a.labels.now) a.led.row p.column_inside (omega arith) in (
      walk-to _ walk (p.row_lt_rows.1.upto a.led.row h),
      p.row_lt_rows.1.further a.led.row h,
      p.row_lt_rows.1,
      few,
      λ leaders values chain e q allowed.
          let M = cells_of values a.labels.now in
          let l = label-read values a.labels.now a.g.table.columns place a.g.column p.column_inside.has-column (inside-other (length values) walk h q) (inside walk h) in
          let each = rw (rows_next a.g.table.columns a.g.table.rows a.led.row place M h) at allowed in
          let start : c.with_label-all.result ≡ composed 0 (after_a (cell_at a.g.column (row_from a.g.table.columns M place)).label c.aggregate_code-code.result a.size) = rw l (c.with_label-all.ensures zero-well-formed (rw l at each.0) few) in
          let later = each_chosen (Allowed a.g.column) a.led.row (drop (a.led.row + 1) leaders) (bare_rows a.g.table.columns (a.g.table.rows - (a.led.row + 1)) (drop (a.g.table.at + (a.led.row + 1) * a.g.table.columns) M)) (rw k each.1) in (
            next-led chain a.led.row a.g.table.columns a.g.table.at M a.led.row h e,
            rw (← (next-left chain a.led.row a.g.table.columns a.g.table.at M a.led.row h e)) (label-taken {row = row_from a.g.table.columns M place} (none-composed c.aggregate_code-code.result a.size a.g.column _ (each.0, later)) start),
          ),
    )

pub overflow_mul-place : goal.overflow_mul-place
overflow_mul-place c = omega (arith, inside c.loop-other.invariant.0 c.loop-other-test.true)

pub overflow_add-place : goal.overflow_add-place
overflow_add-place c = omega (arith, inside c.loop-other.invariant.0 c.loop-other-test.true)

pub overflow_add-place-in-loop-other : goal.overflow_add-place-in-loop-other
overflow_add-place-in-loop-other c = omega (arith, inside c.loop-other.invariant.0 c.loop-other-test.true)

pub offset_bounds-labels-place : goal.offset_bounds-labels-place
offset_bounds-labels-place c = omega (arith, inside c.loop-other.invariant.0 c.loop-other-test.true)

pub bounds-labels-place : goal.bounds-labels-place
bounds-labels-place c = omega (arith, inside c.loop-other.invariant.0 c.loop-other-test.true)

pub offset_bounds-next-other : goal.offset_bounds-next-other
offset_bounds-next-other c = omega (arith, c.loop-other.invariant.0.few-rows)

pub bounds-next-other : goal.bounds-next-other
bounds-next-other c = omega (arith, c.loop-other.invariant.0.few-rows)

pub loop-other-smaller : goal.loop-other-smaller
loop-other-smaller c = omega (arith, c.loop-other.invariant.2.further c.loop-other.other c.loop-other-test.true)

pub loop-other-preserved : goal.loop-other-preserved
loop-other-preserved c =
    let a = c.args in
    let i = c.loop-other.invariant in
    let h = c.loop-other-test.true in
    let further = i.2.further c.loop-other.other h in
    let place = a.g.table.at + c.loop-other.other * a.g.table.columns in (
      walk-to _ i.0 (i.2.upto c.loop-other.other h),
      omega arith,
      i.2,
      i.3,
      λ leaders values chain e q allowed.
          let M = cells_of values a.labels.now in
          let t = i.4 leaders values chain e q allowed in
          let r = label-read values a.labels.now a.g.table.columns place a.g.column i.0.has-column (inside-other (length values) i.0 h q) (inside i.0 h) in
          let u = rw (member-next chain a.led.row a.g.table.columns a.g.table.at M c.loop-other.other h (t.0 h)) at t.1 in
          (next-led chain a.led.row a.g.table.columns a.g.table.at M c.loop-other.other h (t.0 h), label-taken u (rw r (c.with_label-all-in-loop-other.ensures u.formed (rw r at u.allowed.0) i.3))),
    )

pub returns : goal.returns
returns c =
    λ leaders values chain e q allowed.
    let z : c.args.g.table.rows - c.loop-other.other ≡ 0 = omega arith in
    rw (← c.aggregate_code-code.ensures) (sym (rw z at (c.loop-other.invariant.4 leaders values chain e q.within allowed).1.rest))
