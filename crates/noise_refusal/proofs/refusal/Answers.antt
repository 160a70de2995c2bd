-- `noise_refusal::refusal` meets its contract. The loop: the verdict is that of the rows that are left. Assumes nothing.
use Prim.Native.Nat.{◌+◌, ◌*◌}
use mathlib.Core.Path.{◌≡◌, sym, ap, ◌∙◌}
use native.Mathlib.Omega.{arith}
use borrow.Author.Rules.{rules}
use Rattle.std.specs.Prelude.{Err}
use Rattle.cells.specs.promises.Search.{says}
use Rattle.memory.specs.promises.Steps.{step_says}
use Rattle.plan.specs.Noise.{noise_row, check_noise}
use Rattle.memory.proofs.RefusedRows.{row_at, row_label, row-formed, row-refuses, row-passes, rows_end}
use Rattle.noise_refusal.proofs.refusal.Goals as goal
use Rattle.noise_refusal.proofs.refusal.Goals.{After-row_refusal}

row-says : (c : After-row_refusal) → let a = c.args in
    step_says c.row_refusal.result ≡ says (noise_row a.column a.left c.loop-row.row (row_at a.labels.now a.table (a.table.at + c.loop-row.row * a.table.columns)))
row-says c = rw (row_label c.loop-row.invariant c.loop-row-test.true) c.row_refusal.ensures

pub row_refusal-requires : goal.row_refusal-requires
row_refusal-requires c = row-formed c.loop-row.invariant c.loop-row-test.true

pub returns-in_err-row_refusal : goal.returns-in_err-row_refusal
unfolding check_noise
returns-in_err-row_refusal c =
    let same : c.from_residual.result ≡ Err c.in_err-row_refusal.field-0.0 = search rules in
    rw (same, rw c.area.ensures at (sym c.column_formed.ensures ∙ c.if-not-column_formed.false))
    (row-refuses c.loop-row.invariant c.loop-row-test.true (row-says (goal.at.returns-in_err-row_refusal c).After-row_refusal) c.in_err-row_refusal.was)

pub loop-row-preserved : goal.loop-row-preserved
loop-row-preserved c = row-passes c.loop-row.invariant c.loop-row-test.true (row-says (goal.at.loop-row-preserved c).After-row_refusal) c.in_ok-row_refusal.was

pub returns : goal.returns
unfolding check_noise
returns c = rw (rw c.area.ensures at (sym c.column_formed.ensures ∙ c.if-not-column_formed.false)) (ap says (sym (rows_end c.loop-row.invariant (omega arith))))
