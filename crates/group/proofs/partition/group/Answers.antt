-- `group::partition::group` meets its contract. Assumes nothing.
use Prim.Native.Nat.{◌≤◌}
use mathlib.Core.Path.{◌≡◌, sym, ap, ◌∙◌}
use mathlib.Core.Bool.{true}
use mathlib.Core.List.{[]}
use lib.ListN.{length}
use Rattle.cells.specs.promises.Lent.{memory_held}
use Rattle.cells.specs.promises.Work.{mark_room}
use Rattle.memory.specs.promises.Stack.{widths_to}
use Rattle.memory.specs.promises.Steps.{fits, step_says}
use Rattle.plan.specs.Supply.{supplied}
use Rattle.plan.specs.Widths.{columns_exist, made_columns}
use Rattle.plan.specs.declared.Step.TheVariants.{Group}
use Rattle.memory.proofs.Finish.{error-is, unfit-done, columns-fit, columns-misfit, marks-too, marks-short, not-even}
use Rattle.group.proofs.Meaning.{GroupFits, group-parts, source_is, marks-are-there, allowed, refused-group, made-group, misfit-first}
use Rattle.group.proofs.partition.group.Goals as goal
use Rattle.group.proofs.partition.group.Goals.{After-live_table-table}

fitted : (c : After-live_table-table) → let a = c.args in (fits (Group a.keys a.aggregate a.column) [] (length a.cells.now.values.now) (length a.cells.now.labels.now) a.stack ≡ true) × (c.in_ok-width.width ≡ made_columns (Group a.keys a.aggregate a.column) [] (widths_to a.stack a.stack.depth))
fitted c = columns-fit _ _ (sym c.in_ok-width.ensures)

parts : (c : After-live_table-table) → let a = c.args in GroupFits a.keys a.column (length a.cells.now.values.now) (length a.cells.now.labels.now) a.stack c.live_table-table.result c.in_ok-width.width
parts c = let a = c.args in group-parts a.keys a.aggregate a.column [] _ _ a.stack _ _ c.live_table-table.ensures (fitted c).0 (fitted c).1

-- the marks are enough
room : (c : After-live_table-table) → mark_room ≤ length c.args.marks.now
room c = c.if-marks-lt-MARK_ROOM.false

pub returns-then-marks-lt-MARK_ROOM-clause-done : goal.returns-then-marks-lt-MARK_ROOM-clause-done
returns-then-marks-lt-MARK_ROOM-clause-done c =
    let a = c.args in
    λ supply. unfit-done (Group a.keys a.aggregate a.column) supply _ _
    (misfit-first a.keys a.aggregate a.column supply (memory_held a.cells.now a.marks.now) a.stack (marks-short _ a.marks.now c.if-marks-lt-MARK_ROOM.true))

pub returns-in_err-width-clause-done : goal.returns-in_err-width-clause-done
unfolding columns_exist made_columns
returns-in_err-width-clause-done c =
    let a = c.args in
    λ supply. rw (error-is c.from_residual.ensures.1)
    (unfit-done (Group a.keys a.aggregate a.column) supply _ _
    (misfit-first a.keys a.aggregate a.column supply (memory_held a.cells.now a.marks.now) a.stack
    (not-even a.marks.now (columns-misfit _ _ (sym c.in_err-width.ensures)))))

pub returns-in_err-refusal-clause-done : goal.returns-in_err-refusal-clause-done
unfolding columns_exist made_columns
returns-in_err-refusal-clause-done c =
    let a = c.args in
    let t = (goal.at.returns-in_err-refusal-clause-done c).After-live_table-table in
    λ supply. rw (error-is c.from_residual-in_err-refusal.ensures.1)
    (refused-group a.keys a.aggregate a.column supply (memory_held a.cells.now a.marks.now) a.stack (room t) (marks-too a.marks.now (room t) (fitted t).0) (parts t) c.in_err-refusal.field-0.0 (sym (ap step_says c.in_err-refusal.was) ∙ c.refusal.ensures))

pub replace-count-requires : goal.replace-count-requires
unfolding columns_exist made_columns
replace-count-requires c =
    let a = c.args in
    let m = memory_held a.cells.now a.marks.now in
    let t = (goal.at.replace-count-requires c).After-live_table-table in
    let f = marks-too a.marks.now (room t) (fitted t).0 in
    record {
      source = (source_is a.keys a.aggregate a.column (supplied [] []) m a.stack (room t) f (parts t), marks-are-there a.keys a.aggregate a.column (supplied [] []) m a.stack (room t) f (parts t));
      each = allowed a.keys a.aggregate a.column (supplied [] []) m a.stack (room t) f (parts t) (sym (ap step_says c.in_ok-refusal.was) ∙ c.refusal.ensures);
    }

pub returns-clause-done : goal.returns-clause-done
unfolding columns_exist made_columns
returns-clause-done c =
    let a = c.args in
    let t = (goal.at.returns-clause-done c).After-live_table-table in
    λ supply. rw c.with_table.ensures
    (made-group a.keys a.aggregate a.column supply (memory_held a.cells.now a.marks.now) a.stack (room t) (marks-too a.marks.now (room t) (fitted t).0) (parts t) (sym (ap step_says c.in_ok-refusal.was) ∙ c.refusal.ensures) c.replace-count.ensures.done)
