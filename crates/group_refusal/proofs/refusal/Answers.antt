-- `group_refusal::refusal` meets its contract: 31, then 32. Assumes nothing.
use mathlib.Core.Path.{◌≡◌, sym, ap, ◌∙◌}
use mathlib.Core.Bool.{true}
use native.Mathlib.Nat.{zero-add}
use Rattle.std.specs.Prelude.{Ok}
use Rattle.cells.specs.promises.Labelled.{column_formed_at}
use Rattle.cells.specs.promises.Search.{says, place_says}
use Rattle.memory.specs.declared.Refusal.TheVariants.{NotClear}
use Rattle.memory.specs.promises.Stack.{labels_in}
use Rattle.plan.specs.Group.{check_group}
use Rattle.plan.specs.Masks.{in_mask}
use Rattle.plan.specs.Verdict.{refused, not_clear}
use Rattle.memory.proofs.Finish.{never-unfit, refusal-stands, goes_on}
use Rattle.memory.proofs.FormedTables.{formed-table}
use Rattle.group_refusal.proofs.refusal.Goals as goal
use Rattle.group_refusal.proofs.refusal.Goals.{After-not_clear, Else-not-column_formed}

-- the labels were tested
fits : (c : Else-not-column_formed) → let a = c.args in column_formed_at a.labels.now a.table.at a.table.rows a.table.columns a.column ≡ true
fits c = sym (rw c.area-area.ensures at c.column_formed.ensures) ∙ c.if-not-column_formed.false

-- the labels were tested
fits-at-After-not_clear : (c : After-not_clear) → let a = c.args in column_formed_at a.labels.now a.table.at a.table.rows a.table.columns a.column ≡ true
fits-at-After-not_clear c = sym (rw c.area-area.ensures at c.column_formed.ensures) ∙ c.if-not-column_formed.false

keys : (c : After-not_clear) → let a = c.args in place_says 31 0 c.not_clear.result ≡ says (not_clear (in_mask a.keys) 31 0 (labels_in a.labels.now a.table))
keys c =
    let a = c.args in
    rw c.area-area.ensures at (c.not_clear.ensures 31 0) ∙ rw (formed-table a.labels.now a.table a.column (fits-at-After-not_clear c)).is

pub returns-in_err-at : goal.returns-in_err-at
returns-in_err-at c = absurd (never-unfit (sym (ap (place_says 31 0) c.in_err-at.was) ∙ keys (goal.at.returns-in_err-at c).After-not_clear))

pub returns-in-Some : goal.returns-in-Some
unfolding check_group
returns-in-Some c =
    let row = c.in-Some.at.row in
    let answer = c.in_ok-at.was ∙ ap Ok c.in-Some.is in
    rw (fits (goal.at.returns-in-Some c).Else-not-column_formed)
    (refusal-stands (NotClear c.in-Some.at) _ (ap (λ n. says (refused 31 n c.in-Some.at.column)) (sym (zero-add row)) ∙ sym (ap (place_says 31 0) answer) ∙ keys (goal.at.returns-in-Some c).After-not_clear))

pub returns : goal.returns
unfolding check_group
returns c =
    let answer = c.in_ok-at.was ∙ ap Ok c.in_default.is in
    rw (fits (goal.at.returns c).Else-not-column_formed) (c.forbidden.ensures ∙ ap says (sym (goes_on _ (sym (ap (place_says 31 0) answer) ∙ keys (goal.at.returns c).After-not_clear))))
