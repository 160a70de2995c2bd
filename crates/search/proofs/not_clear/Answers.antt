-- `search::not_clear` meets its contract. Assumes nothing.
use Prim.Native.Nat.{◌+◌, ◌*◌}
use mathlib.Core.Path.{◌≡◌, sym, ap, ◌∙◌}
use native.Mathlib.Omega.{arith}
use Rattle.plan.specs.Masks.{in_mask}
use Rattle.cells.specs.promises.Search.{says}
use Rattle.cells.proofs.Searching.{search-ends, within-table, row-begins, row_ends, cell-next, search-begins, cell-inside}
use Rattle.search.proofs.not_clear.Goals as goal

pub loop-column-init : goal.loop-column-init
loop-column-init c = (
  c.rows.invariant.0,
  λ number first.
      let a = c.args in
      let e : a.table.at + c.rows.row * a.table.columns + 0 ≡ a.table.at + c.rows.row * a.table.columns = omega arith in
      rw e (c.rows.invariant.1 number first ∙ row-begins (in_mask a.mask) a.labels.now a.table.rows a.table.columns number first c.rows.row _ c.rows-test.true),
)

pub loop-column-preserved : goal.loop-column-preserved
unfolding in_mask
loop-column-preserved c = (
  c.loop-column.invariant.0,
  λ number first.
      let a = c.args in
      let t = within-table a.table.at a.table.rows a.table.columns _ (sym c.within.ensures ∙ c.if-not-within.false) in
      let inside = cell-inside _ _ _ _ c.rows-test.true c.loop-column-test.true in
      let next : a.table.at + c.rows.row * a.table.columns + (c.loop-column.column + 1) ≡ a.table.at + c.rows.row * a.table.columns + c.loop-column.column + 1 = omega arith in
      rw next (c.loop-column.invariant.1 number first ∙ cell-next (in_mask a.mask) a.labels.now a.table.rows a.table.columns number first _ c.loop-column.column _ c.loop-column-test.true (omega (arith, inside)) ∙ rw c.if-mask-column.false),
)

pub rows-preserved : goal.rows-preserved
rows-preserved c = (
  c.loop-column.invariant.0,
  λ number first.
      let a = c.args in
      let full : c.loop-column.column ≡ a.table.columns = omega arith in
      let next : a.table.at + (c.rows.row + 1) * a.table.columns ≡ a.table.at + c.rows.row * a.table.columns + c.loop-column.column = omega arith in
      rw next (c.loop-column.invariant.1 number first ∙ row_ends (in_mask a.mask) a.labels.now a.table.rows a.table.columns number first c.rows.row c.loop-column.column _ full),
)

pub returns-then-mask-column : goal.returns-then-mask-column
unfolding in_mask
returns-then-mask-column c = λ number first.
    let a = c.args in
    let e = sym c.within.ensures ∙ c.if-not-within.false in
    let t = within-table a.table.at a.table.rows a.table.columns _ e in
    let inside = cell-inside _ _ _ _ c.rows-test.true c.loop-column-test.true in
    rw e
    (ap says (sym (search-begins (in_mask a.mask) a.labels.now a.table.rows a.table.columns number first a.table.at ∙ c.loop-column.invariant.1 number first ∙ cell-next (in_mask a.mask) a.labels.now a.table.rows a.table.columns number first _ c.loop-column.column _ c.loop-column-test.true (omega (arith, inside)) ∙ rw c.if-mask-column.true)))

pub returns-after-rows : goal.returns-after-rows
returns-after-rows c = λ number first.
    let a = c.args in
    rw (sym c.within.ensures ∙ c.if-not-within.false, c.rows.invariant.0)
    (ap says (sym (search-begins (in_mask a.mask) a.labels.now a.table.rows a.table.columns number first a.table.at ∙ c.rows.invariant.1 number first ∙ search-ends (in_mask a.mask) a.labels.now a.table.rows a.table.columns number first c.rows.row _ c.rows-test.false)))
