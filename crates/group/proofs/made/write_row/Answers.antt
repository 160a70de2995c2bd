-- `group::made::write_row` meets its contract. The loop: the keys among the columns passed are written. Assumes nothing.
use Prim.Native.Nat.{◌+◌, ◌*◌}
use mathlib.Core.Path.{◌≡◌}
use native.Mathlib.Omega.{arith}
use mir.Facts.{to_z-of_z}
use borrow.Author.Tests.{eq-eqb, ne_eqb}
use Rattle.plan.specs.Masks.{in_mask}
use Rattle.cells.specs.promises.Lent.{work_held}
use Rattle.cells.specs.promises.Work.{work, cells_in, room}
use Rattle.plan.specs.Keep.{kept_count}
use Rattle.cells.proofs.Columns.{row_room}
use Rattle.group.proofs.Writing.{count-key, count-other, count-le, key-passed, key-written, last_written}
use Rattle.cells.proofs.CellLaws.{cells-length, kept-none, kept_set}
use Rattle.cells.proofs.Written.{nothing_written}
use Rattle.value.proofs.Machine.{back_is}
use Rattle.group.proofs.made.write_row.Goals as goal
use Rattle.group.proofs.made.write_row.Goals.{else-keys-column-eq1, then-keys-column-eq1}

pub overflow_mul-from : goal.overflow_mul-from
overflow_mul-from c = omega (arith, row_room _ _ _ _ _ c.requires.row_lt_rows.0 c.requires.source.below)

pub overflow_add-from : goal.overflow_add-from
overflow_add-from c = omega (arith, row_room _ _ _ _ _ c.requires.row_lt_rows.0 c.requires.source.below)

pub loop-column-init : goal.loop-column-init
loop-column-init c =
    let a = c.args in
    let p = c.requires in
    let before = work_held a.cells.now in
    (omega arith, omega arith, nothing_written (cells_in before) a.to (omega (arith, cells-length before room p.source.values-room p.source.labels-room)), kept-none before)

pub loop-column-preserved : goal.loop-column-preserved
unfolding in_mask
loop-column-preserved c =
    let a = c.args in
    let p = c.requires in
    let i = c.loop-column.invariant in
    let h = c.loop-column-test.true in
    let before = work_held a.cells.now in
    let w' = work c.loop-column.values c.loop-column.labels in
    let M = cells_in before in
    let from = a.g.table.at + a.row * a.g.table.columns in
    let long = cells-length before room p.source.values-room p.source.labels-room in
    let inside = row_room _ _ _ _ _ p.row_lt_rows.0 p.source.below in
    let fewer = count-le a.g.keys (c.loop-column.column + 1) a.g.table.columns (omega arith) in
    elim c.if-keys-column-eq1.branch [
      | then-keys-column-eq1 w ↦ let key = eq-eqb _ 1 w.if-keys-column-eq1.true in
          let n = count-key a.g.keys c.loop-column.column key in (
            rw w.place-is (omega arith),
            rw (w.place-is, n) (omega arith),
            rw (w.values-is, w.labels-is, back_is _ w.values-then-keys-column-eq1-1.given, i.1) (key-written M a.g.keys a.g.table.columns c.loop-column.column from a.to w' i.2 h (omega arith) (omega arith) (omega arith) (omega arith) key),
            rw (w.values-is, w.labels-is) (kept_set c.loop-column.place _ _ i.0 i.3),
          )
      | else-keys-column-eq1 w ↦ let other = ne_eqb _ 1 w.if-keys-column-eq1.false in
          let n = count-other a.g.keys c.loop-column.column other in (
            rw w.place-is i.0,
            rw (w.place-is, n) i.1,
            rw (w.values-is, w.labels-is) (key-passed M a.g.keys a.g.table.columns c.loop-column.column from a.to w' i.2 h (omega arith) other),
            rw (w.values-is, w.labels-is) i.3,
          )
    ]

pub returns-clause-done : goal.returns-clause-done
returns-clause-done c =
    let a = c.args in
    let i = c.loop-column.invariant in
    let e : c.loop-column.column ≡ a.g.table.columns = omega arith in
    let p : c.loop-column.place ≡ a.to + kept_count a.g.keys a.g.table.columns = rw e at i.1 in
    let before = work_held a.cells.now in
    let long = cells-length before room c.requires.source.values-room c.requires.source.labels-room in
    record {
      written = rw (p, to_z-of_z c.ranges.value) (last_written (cells_in before) a.g.keys a.g.table.columns (a.g.table.at + a.row * a.g.table.columns) a.to (work c.loop-column.values c.loop-column.labels) a.value a.label (rw e at i.2) (omega arith));
      kept = kept_set c.loop-column.place _ _ i.0 i.3;
    }
