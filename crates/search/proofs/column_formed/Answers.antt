-- `search::column_formed` meets its contract. Assumes nothing.
use Prim.Native.Nat.{◌+◌, ◌*◌}
use mathlib.Core.Path.{◌≡◌, sym, ◌∙◌}
use native.Mathlib.Omega.{arith}
use borrow.Author.Tests.{lt-ltb}
use Rattle.cells.proofs.Columns.{formed-next}
use Rattle.search.proofs.column_formed.Goals as goal

pub returns-then-not-well_formed : goal.returns-then-not-well_formed
returns-then-not-well_formed c =
    let a = c.args in
    rw (sym c.within.ensures ∙ c.if-not-within.false, lt-ltb _ _ c.if-columns-column.false)
    (sym (c.loop-row.invariant ∙ formed-next a.labels.now a.table.columns a.column a.table.rows c.loop-row.row _ c.loop-row-test.true c.if-columns-column.false
    ∙ rw (sym c.well_formed-in-loop-row.ensures ∙ c.if-not-well_formed.true)))

pub loop-row-preserved : goal.loop-row-preserved
loop-row-preserved c =
    let a = c.args in
    let next : a.table.at + (c.loop-row.row + 1) * a.table.columns ≡ a.table.at + c.loop-row.row * a.table.columns + a.table.columns = omega arith in
    rw next (c.loop-row.invariant ∙ formed-next a.labels.now a.table.columns a.column a.table.rows c.loop-row.row _ c.loop-row-test.true c.if-columns-column.false
    ∙ rw (sym c.well_formed-in-loop-row.ensures ∙ c.if-not-well_formed.false))
