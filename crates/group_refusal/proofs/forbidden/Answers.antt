-- `group_refusal::forbidden` meets its contract. The loop: the search is what is left of it, after the rows passed. Assumes nothing.
use Prim.Native.Nat.{◌+◌, ◌*◌}
use mathlib.Core.Bool.{Bool}
use mathlib.Core.Path.{◌≡◌, sym, ap, ◌∙◌}
use native.Mathlib.Omega.{arith}
use Rattle.cells.specs.promises.Search.{says}
use Rattle.group_refusal.specs.promises.Refusals.{forbids_at}
use Rattle.label_discharge.specs.Discharge.{forbids_a}
use Rattle.memory.specs.promises.Stack.{labels_in}
use Rattle.plan.specs.Verdict.{or_else, refuse_if, first_row}
use Rattle.memory.proofs.RefusedRows.{Within, rest_of, rows-begin, row_within, row_label, row-formed, row-left, row-passed, rows_end}
use Rattle.group_refusal.proofs.forbidden.Goals as goal
use Rattle.group_refusal.proofs.forbidden.Goals.{After-forbids, In-loop-row}

within : (c : In-loop-row) → let a = c.args in Within a.labels.now a.table a.column c.loop-row.row (a.table.at + c.loop-row.row * a.table.columns)
within c = row_within c.loop-row.invariant c.loop-row-test.true

pub loop-row-init : goal.loop-row-init
loop-row-init c = let a = c.args in let e : a.table.at + 0 * a.table.columns ≡ a.table.at = omega arith in rw e (rows-begin (forbids_at a.column) a.labels.now a.table a.column c.requires)

pub overflow_mul-label : goal.overflow_mul-label
overflow_mul-label c = omega (arith, within (goal.at.overflow_mul-label c).In-loop-row)

pub overflow_add-label : goal.overflow_add-label
overflow_add-label c = omega (arith, within (goal.at.overflow_add-label c).In-loop-row)

pub overflow_add-label-in-loop-row : goal.overflow_add-label-in-loop-row
overflow_add-label-in-loop-row c = omega (arith, within (goal.at.overflow_add-label-in-loop-row c).In-loop-row)

pub bounds-labels-table : goal.bounds-labels-table
bounds-labels-table c = omega (arith, within (goal.at.bounds-labels-table c).In-loop-row)

pub forbids-requires : goal.forbids-requires
forbids-requires c = row-formed c.loop-row.invariant c.loop-row-test.true

-- the row's own verdict, by what was tested
row-says : (c : After-forbids) {b : Bool} → c.forbids.result ≡ b → let a = c.args in let from = a.table.at + c.loop-row.row * a.table.columns in
    first_row (forbids_at a.column) 0 (labels_in a.labels.now a.table) ≡ or_else (refuse_if b 32 c.loop-row.row a.column) (rest_of (forbids_at a.column) a.labels.now a.table (c.loop-row.row + 1) (from + a.table.columns))
row-says c e =
    let a = c.args in
    let i = c.loop-row.invariant in
    let rest = rest_of (forbids_at a.column) a.labels.now a.table (c.loop-row.row + 1) (a.table.at + c.loop-row.row * a.table.columns + a.table.columns) in
    row-left i c.loop-row-test.true ∙ ap (λ (b : Bool). or_else (refuse_if b 32 c.loop-row.row a.column) rest) (ap forbids_a (row_label i c.loop-row-test.true) ∙ sym c.forbids.ensures ∙ e)

pub returns-then-forbids : goal.returns-then-forbids
returns-then-forbids c = ap says (sym (row-says (goal.at.returns-then-forbids c).After-forbids c.if-forbids.true))

pub loop-row-preserved : goal.loop-row-preserved
loop-row-preserved c =
    let a = c.args in
    let next : a.table.at + (c.loop-row.row + 1) * a.table.columns ≡ a.table.at + c.loop-row.row * a.table.columns + a.table.columns = omega arith in
    rw next (row-passed c.loop-row.invariant c.loop-row-test.true (sym (row-left c.loop-row.invariant c.loop-row-test.true) ∙ row-says (goal.at.loop-row-preserved c).After-forbids c.if-forbids.false))

pub returns : goal.returns
returns c = ap says (sym (rows_end c.loop-row.invariant (omega arith)))
