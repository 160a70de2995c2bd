-- `filter::filtering::filter_rows` meets its contract. Assumes nothing.
use mathlib.Core.Path.{◌≡◌}
use native.Mathlib.Omega.{arith}
use Rattle.std.proofs.Common.{rules}
use Rattle.cells.specs.promises.Lent.{work_held, memory_held}
use Rattle.cells.proofs.CellLaws.{values_moved, labels-moved}
use Rattle.filter.proofs.FilterLoop.{Stand, values-reach, in-values, in-labels, passed, failed, filter-begins, filter-ends}
use Rattle.filter.proofs.filtering.filter_rows.Goals as goal
use Rattle.filter.proofs.filtering.filter_rows.Goals.{Start, else-passes, then-passes}

-- the table stands within memory
stand : (c : Start) → let a = c.args in Stand a.top (memory_held a.cells.now a.marks.now)
stand c = record { cells = c.requires.inside.0; marks = c.requires.inside.1 }

pub loop-row-init : goal.loop-row-init
loop-row-init c = (filter-begins (stand (goal.at.loop-row-init c).Start), search rules)

pub passes-requires : goal.passes-requires
passes-requires c =
    let reach = values-reach (stand (goal.at.passes-requires c).Start) c.loop-row.invariant.0 c.loop-row-test.true in
    omega (arith, reach, c.requires.column_lt_columns.0)

pub loop-row-preserved : goal.loop-row-preserved
loop-row-preserved c =
    let t = c.args.test in
    let i = stand (goal.at.loop-row-preserved c).Start in
    let s = c.loop-row.invariant.0 in
    let h = c.loop-row-test.true in
    let w = work_held c.loop-row.cells in
    let f = c.requires.column_lt_columns in
    let answer = c.passes.ensures in
    elim c.if-passes.branch [
      | then-passes m ↦ let moves = m.move_cells.ensures in
          let v = values_moved w (in-values i s h) (in-labels i s h) moves.value moves.values_after moves.labels_after in
          let k = labels-moved w (in-values i s h) (in-labels i s h) moves.value moves.values_after moves.labels_after in
          (rw (m.cells-is, m.marks-is, m.kept-is, v, k) (passed t.column t.comparison t.operand i s h f.0 f.1 answer m.if-passes.true), search rules)
      | else-passes m ↦ (rw (m.cells-is, m.marks-is, m.kept-is) (failed t.column t.comparison t.operand i s h f.0 f.1 answer m.if-passes.false), search rules)
    ]

pub returns-clause-done : goal.returns-clause-done
returns-clause-done c =
    let s = c.loop-row.invariant.0 in
    let e : c.loop-row.row ≡ c.args.top.rows = omega (arith, s.row-le, c.loop-row-test.false) in
    filter-ends (stand (goal.at.returns-clause-done c).Start) e s
