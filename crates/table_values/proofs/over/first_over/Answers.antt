-- `table_values::over::first_over` meets its contract. Assumes nothing.
use Prim.Native.Nat.{ℕ, ◌+◌, ◌*◌}
use mathlib.Core.Path.{◌≡◌, refl, sym, ap, ◌∙◌}
use mathlib.Core.Bool.{not}
use native.Mathlib.Omega.{arith}
use lib.ListN.{drop}
use Rattle.cells.specs.promises.Search.{says}
use Rattle.plan.specs.Verdict.{or_else, refuse_if}
use Rattle.table_values.specs.promises.Over.{first_over_in}
use Rattle.cells.proofs.Searching.{within-table, cell-inside}
use Rattle.table_values.proofs.Overs.{cells_left, search-begins, row-begins, cell-next, row_ends, search-ends}
use Rattle.value.proofs.Machine.{back_is}
use Rattle.table_values.proofs.over.first_over.Goals as goal
use Rattle.table_values.proofs.over.first_over.Goals.{After-in_range-fits}

-- the search at a cell, by what is answered of its value
tested : (c : After-in_range-fits) (first : ℕ) → let a = c.args in let row = c.rows.row in let column = c.loop-column.column in
    first_over_in first a.table.columns a.table.rows (drop a.table.at a.values.now) ≡ or_else (refuse_if (not c.in_range-fits.result) 36 (first + row) column) (cells_left a.values.now a.table.rows a.table.columns first row (column + 1) (a.table.at + row * a.table.columns + column + 1))
tested c first =
    let a = c.args in
    let t = within-table a.table.at a.table.rows a.table.columns _ (sym c.within.ensures ∙ c.if-not-within.false) in
    let inside = cell-inside _ _ _ _ c.rows-test.true c.loop-column-test.true in
    rw (c.in_range-fits.ensures, back_is _ c.in_range-arg-1.given)
    (c.loop-column.invariant.1 first ∙ cell-next a.values.now a.table.rows a.table.columns first _ c.loop-column.column _ c.loop-column-test.true (omega (arith, inside)))

pub rows-init : goal.rows-init
rows-init c = (
  refl,
  λ first.
      let a = c.args in
      let e : a.table.at + 0 * a.table.columns ≡ a.table.at = omega arith in
      rw e (search-begins a.values.now a.table.rows a.table.columns first a.table.at),
)

pub loop-column-init : goal.loop-column-init
loop-column-init c = (
  c.rows.invariant.0,
  λ first.
      let a = c.args in
      let e : a.table.at + c.rows.row * a.table.columns + 0 ≡ a.table.at + c.rows.row * a.table.columns = omega arith in
      rw e (c.rows.invariant.1 first ∙ row-begins a.values.now a.table.rows a.table.columns first c.rows.row _ c.rows-test.true),
)

pub loop-column-preserved : goal.loop-column-preserved
loop-column-preserved c = (
  c.loop-column.invariant.0,
  λ first.
      let a = c.args in
      let next : a.table.at + c.rows.row * a.table.columns + (c.loop-column.column + 1) ≡ a.table.at + c.rows.row * a.table.columns + c.loop-column.column + 1 = omega arith in
      rw next (tested (goal.at.loop-column-preserved c).After-in_range-fits first ∙ rw c.if-not-fits.false),
)

pub rows-preserved : goal.rows-preserved
rows-preserved c = (
  c.loop-column.invariant.0,
  λ first.
      let a = c.args in
      let full : c.loop-column.column ≡ a.table.columns = omega arith in
      let next : a.table.at + (c.rows.row + 1) * a.table.columns ≡ a.table.at + c.rows.row * a.table.columns + c.loop-column.column = omega arith in
      rw next (c.loop-column.invariant.1 first ∙ row_ends a.values.now a.table.rows a.table.columns first c.rows.row c.loop-column.column _ full),
)

pub returns-then-not-fits : goal.returns-then-not-fits
returns-then-not-fits c = λ first.
    rw (sym c.within.ensures ∙ c.if-not-within.false)
    (ap says (sym (tested (goal.at.returns-then-not-fits c).After-in_range-fits first ∙ rw c.if-not-fits.true)))

pub returns-after-rows : goal.returns-after-rows
returns-after-rows c = λ first.
    let a = c.args in
    rw (sym c.within.ensures ∙ c.if-not-within.false, c.rows.invariant.0)
    (ap says (sym (c.rows.invariant.1 first ∙ search-ends a.values.now a.table.rows a.table.columns first c.rows.row _ c.rows-test.false)))
