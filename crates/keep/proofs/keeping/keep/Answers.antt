-- `keep::keeping::keep` meets its contract. Assumes nothing.
use mathlib.Core.Path.{◌≡◌, sym}
use mathlib.Core.Bool.{true}
use lib.ListN.{length}
use mathlib.Core.List.{[]}
use Rattle.cells.specs.promises.Work.{memory_of}
use Rattle.memory.specs.promises.Stack.{widths_to}
use Rattle.memory.specs.promises.Steps.{fits}
use Rattle.plan.specs.Widths.{columns_exist, made_columns}
use Rattle.plan.specs.declared.Step.TheVariants.{Keep}
use Rattle.memory.proofs.Finish.{error-is, unfit-done, columns-fit, columns-misfit, marks-too, not-even}
use Rattle.keep.proofs.KeepMeaning.{KeepFits, keep-parts, keep-made}
use Rattle.keep.proofs.keeping.keep.Goals as goal
use Rattle.keep.proofs.keeping.keep.Goals.{After-live_table-top}

fitted : (c : After-live_table-top) → let a = c.args in (fits (Keep a.mask) [] (length a.cells.now.values.now) (length a.cells.now.labels.now) a.stack ≡ true) × (c.in_ok-columns.columns ≡ made_columns (Keep a.mask) [] (widths_to a.stack a.stack.depth))
fitted c = columns-fit _ _ (sym c.in_ok-columns.ensures)

parts : (c : After-live_table-top) → let a = c.args in KeepFits a.mask (length a.cells.now.values.now) (length a.cells.now.labels.now) a.stack c.live_table-top.result c.in_ok-columns.columns
parts c = let a = c.args in keep-parts a.mask [] _ _ a.stack _ _ c.live_table-top.ensures (fitted c).0 (fitted c).1

pub returns-in_err-columns-clause-done : goal.returns-in_err-columns-clause-done
unfolding columns_exist made_columns
returns-in_err-columns-clause-done c =
    λ supply marks room. rw (error-is c.from_residual.ensures.1)
    (unfit-done (Keep c.args.mask) supply _ _ (not-even marks (columns-misfit _ _ (sym c.in_err-columns.ensures))))

pub keep_rows-requires : goal.keep_rows-requires
keep_rows-requires c = (parts (goal.at.keep_rows-requires c).After-live_table-top).inside_is

pub returns-clause-done : goal.returns-clause-done
unfolding columns_exist made_columns
returns-clause-done c =
    let a = c.args in
    λ supply marks room. rw c.with_table.ensures
    (keep-made a.mask supply (memory_of a.cells.now.values.now a.cells.now.labels.now marks) a.stack room (marks-too marks room (fitted (goal.at.returns-clause-done c).After-live_table-top).0) (parts (goal.at.returns-clause-done c).After-live_table-top) c.keep_rows.ensures.done)
