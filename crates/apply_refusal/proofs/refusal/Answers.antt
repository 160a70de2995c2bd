-- `apply_refusal::refusal` meets its contract. The loop: the verdict is that of the rows that are left. Assumes nothing.
use Prim.Native.Nat.{◌+◌, ◌-◌, ◌*◌}
use mathlib.Core.Path.{◌≡◌, sym, ap, ◌∙◌}
use native.Mathlib.Omega.{arith}
use lib.ListN.{length-take, length-drop}
use borrow.Author.Rules.{rules}
use Rattle.std.specs.Prelude.{Err}
use Rattle.cells.specs.promises.Search.{says}
use Rattle.memory.specs.promises.Steps.{step_says}
use Rattle.plan.specs.Apply.{apply_row, check_apply}
use Rattle.memory.proofs.RefusedRows.{row_at, row_within, row_label, row-formed, row-refuses, row-passes, rows_end}
use Rattle.apply_refusal.proofs.refusal.Goals as goal
use Rattle.apply_refusal.proofs.refusal.Goals.{After-row_refusal}

pub row_refusal-requires : goal.row_refusal-requires
row_refusal-requires c =
    let a = c.args in
    let i = c.loop-row.invariant in
    let t = c.loop-row-test.true in
    let from = a.table.at + c.loop-row.row * a.table.columns in
    let part : (from + a.table.columns) - from ≡ a.table.columns = omega arith in
    rw part (record {
      has_column = simp (length-take, length-drop) (omega (arith, row_within i t, i.walking.has-column));
      fits = (rw (row_label i t) (row-formed i t), sym c.operation_fits.ensures ∙ c.if-not-operation_fits.false);
    })

row-says : (c : After-row_refusal) → let a = c.args in
    step_says c.row_refusal.result ≡ says (apply_row a.column a.transform c.loop-row.row (row_at a.labels.now a.table (a.table.at + c.loop-row.row * a.table.columns)))
row-says c =
    let a = c.args in
    let from = a.table.at + c.loop-row.row * a.table.columns in
    let part : (from + a.table.columns) - from ≡ a.table.columns = omega arith in
    rw part at c.row_refusal.ensures

pub returns-in_err-row_refusal : goal.returns-in_err-row_refusal
unfolding check_apply
returns-in_err-row_refusal c =
    let same : c.from_residual.result ≡ Err c.in_err-row_refusal.field-0.0 = search rules in
    rw (same, sym c.operation_fits.ensures ∙ c.if-not-operation_fits.false, rw c.area.ensures at (sym c.column_formed.ensures ∙ c.if-not-column_formed.false))
    (row-refuses c.loop-row.invariant c.loop-row-test.true (row-says (goal.at.returns-in_err-row_refusal c).After-row_refusal) c.in_err-row_refusal.was)

pub loop-row-preserved : goal.loop-row-preserved
loop-row-preserved c = row-passes c.loop-row.invariant c.loop-row-test.true (row-says (goal.at.loop-row-preserved c).After-row_refusal) c.in_ok-row_refusal.was

pub returns : goal.returns
unfolding check_apply
returns c =
    rw (sym c.operation_fits.ensures ∙ c.if-not-operation_fits.false, rw c.area.ensures at (sym c.column_formed.ensures ∙ c.if-not-column_formed.false))
    (ap says (sym (rows_end c.loop-row.invariant (omega arith))))
