-- `apply::applying::apply` meets its contract. Assumes nothing.
use mathlib.Core.Path.{◌≡◌, sym, ap, ◌∙◌}
use mathlib.Core.Bool.{true}
use mathlib.Core.List.{[]}
use lib.ListN.{length}
use borrow.Author.Rules.{rules}
use Rattle.std.specs.Prelude.{Err}
use Rattle.cells.specs.promises.Work.{memory_of}
use Rattle.memory.specs.declared.StepError.TheVariants as error
use Rattle.memory.specs.promises.Stack.{widths_to}
use Rattle.memory.specs.promises.Steps.{step_says, fits}
use Rattle.plan.specs.Widths.{columns_exist, made_columns}
use Rattle.plan.specs.declared.Step.TheVariants.{Apply}
use Rattle.memory.proofs.Finish.{unfit-done, columns-fit, columns-misfit, marks-too, not-even}
use Rattle.extension.proofs.MakingRows.{extends-is}
use Rattle.apply.proofs.Meaning.{ApplyFits, apply-parts, refused-apply, made-apply, misfit-first}
use Rattle.apply.proofs.applying.apply.Goals as goal
use Rattle.apply.proofs.applying.apply.Goals.{After-live_table-top}

fitted : (c : After-live_table-top) → let a = c.args in (fits (Apply a.column a.transform) [] (length a.cells.now.values.now) (length a.cells.now.labels.now) a.stack ≡ true) × (c.in_ok-columns.columns ≡ made_columns (Apply a.column a.transform) [] (widths_to a.stack a.stack.depth))
fitted c = columns-fit _ _ (sym c.fit.ensures ∙ c.in_ok-columns.was)

parts : (c : After-live_table-top) → let a = c.args in ApplyFits a.column a.transform (length a.cells.now.values.now) (length a.cells.now.labels.now) a.stack c.live_table-top.result c.in_ok-columns.columns
parts c = let a = c.args in apply-parts a.column a.transform [] _ _ a.stack _ _ c.live_table-top.ensures (fitted c).0 (fitted c).1

pub returns-in_err-columns-clause-done : goal.returns-in_err-columns-clause-done
unfolding columns_exist made_columns
returns-in_err-columns-clause-done c =
    let a = c.args in
    let same : c.from_residual.result ≡ Err error.DoesNotFit = search rules in
    λ supply marks room. rw same (unfit-done (Apply a.column a.transform) supply _ _
    (misfit-first a.column a.transform supply (memory_of a.cells.now.values.now a.cells.now.labels.now marks) a.stack (not-even marks (columns-misfit _ _ (sym c.fit.ensures ∙ c.in_err-columns.was)))))

pub returns-in_err-refusal-clause-done : goal.returns-in_err-refusal-clause-done
unfolding columns_exist made_columns
returns-in_err-refusal-clause-done c =
    let a = c.args in
    let top = (goal.at.returns-in_err-refusal-clause-done c).After-live_table-top in
    let wrong = c.in_err-refusal.field-0.0 in
    let same : c.from_residual-in_err-refusal.result ≡ Err wrong = search rules in
    λ supply marks room. rw same (refused-apply a.column a.transform supply (memory_of a.cells.now.values.now a.cells.now.labels.now marks) a.stack room (marks-too marks room (fitted top).0) (parts top)
    wrong (sym (ap step_says c.in_err-refusal.was) ∙ c.refusal.ensures))

pub returns-clause-done : goal.returns-clause-done
unfolding columns_exist made_columns
returns-clause-done c =
    let a = c.args in
    let top = (goal.at.returns-clause-done c).After-live_table-top in
    let p = parts top in
    λ supply marks room. rw c.with_table.ensures
    (made-apply a.column a.transform supply (memory_of a.cells.now.values.now a.cells.now.labels.now marks) a.stack room (marks-too marks room (fitted top).0) p
    (sym (ap step_says c.in_ok-refusal.was) ∙ c.refusal.ensures) (c.extend.ensures.made (c.extend.ensures.value ∙ extends-is p.inside_is p.narrow p.below)))
