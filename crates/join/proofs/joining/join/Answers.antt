-- `join::joining::join` meets its contract. Assumes nothing.
use Prim.Native.Nat.{◌≤◌}
use mathlib.Core.Path.{◌≡◌, sym, ap, ◌∙◌}
use mathlib.Core.Bool.{true}
use mathlib.Core.List.{[]}
use lib.ListN.{length}
use borrow.Author.Tests.{lt-leb}
use Rattle.std.specs.Prelude.{Ok}
use Rattle.cells.specs.promises.Search.{says, place_says}
use Rattle.cells.specs.promises.Lent.{memory_held}
use Rattle.cells.specs.promises.Work.{mark_room}
use Rattle.join.specs.promises.Ends.{side_of}
use Rattle.pairs.specs.promises.Pairs.{side_labels}
use Rattle.memory.specs.promises.Stack.{widths_to}
use Rattle.memory.specs.promises.Steps.{fits}
use Rattle.plan.specs.Join.{check_join}
use Rattle.plan.specs.Widths.{columns_exist, made_columns}
use Rattle.plan.specs.declared.Step.TheVariants.{Join}
use Rattle.join.proofs.Ending.{key-done, too-many-done, rows-made-done}
use Rattle.join.proofs.Meaning.{JoinFits, join-parts, lower-marks, in-labels}
use Rattle.memory.proofs.Finish.{error-is, unfit-done, never-unfit, columns-fit, columns-misfit, marks-too, not-even}
use Rattle.join.proofs.joining.join.Goals as goal
use Rattle.join.proofs.joining.join.Goals.{After-live_table-upper, After-unclear_key}

marks-room : (c : After-live_table-upper) → mark_room ≤ length c.args.marks.now
marks-room c = c.if-marks-lt-MARK_ROOM.false

fitted : (c : After-live_table-upper) → let a = c.args in (fits (Join a.left a.right) [] (length a.cells.now.values.now) (length a.cells.now.labels.now) a.stack ≡ true) × (c.in_ok-columns.columns ≡ made_columns (Join a.left a.right) [] (widths_to a.stack a.stack.depth))
fitted c = columns-fit _ _ (sym c.in_ok-columns.ensures)

parts : (c : After-live_table-upper) → let a = c.args in JoinFits a.left a.right (length a.cells.now.values.now) (length a.cells.now.labels.now) a.stack c.live_table-lower.result c.live_table-upper.result c.in_ok-columns.columns
parts c = let a = c.args in join-parts a.left a.right [] _ _ a.stack _ _ _ c.live_table-lower.ensures c.live_table-upper.ensures (fitted c).0 (fitted c).1

keys : (c : After-unclear_key) → let a = c.args in place_says 31 0 c.unclear_key.result ≡ says (check_join a.left a.right (side_labels a.cells.now.labels.now (side_of c.live_table-lower.result a.left)) (side_labels a.cells.now.labels.now (side_of c.live_table-upper.result a.right)))
keys c = c.unclear_key.ensures

pub returns-then-marks-lt-MARK_ROOM-clause-done : goal.returns-then-marks-lt-MARK_ROOM-clause-done
returns-then-marks-lt-MARK_ROOM-clause-done c =
    let a = c.args in
    λ supply. unfit-done (Join a.left a.right) supply _ _ (rw (lt-leb mark_room (length a.marks.now) c.if-marks-lt-MARK_ROOM.true))

pub returns-in_err-columns-clause-done : goal.returns-in_err-columns-clause-done
unfolding columns_exist made_columns
returns-in_err-columns-clause-done c =
    let a = c.args in
    λ supply. rw (error-is c.from_residual.ensures.1) (unfit-done (Join a.left a.right) supply _ _ (not-even a.marks.now (columns-misfit _ _ (sym c.in_err-columns.ensures))))

pub unclear_key-requires : goal.unclear_key-requires
unclear_key-requires c = in-labels (parts (goal.at.unclear_key-requires c).After-live_table-upper).sides

pub returns-in_err-at-clause-done : goal.returns-in_err-at-clause-done
returns-in_err-at-clause-done c = absurd (never-unfit (sym (ap (place_says 31 0) c.in_err-at.was) ∙ keys (goal.at.returns-in_err-at-clause-done c).After-unclear_key))

pub returns-in-Some-clause-done : goal.returns-in-Some-clause-done
unfolding columns_exist made_columns
returns-in-Some-clause-done c =
    let a = c.args in
    let t = (goal.at.returns-in-Some-clause-done c).After-live_table-upper in
    let answer = c.in_ok-at.was ∙ ap Ok c.in-Some.is in
    λ supply. key-done a.left a.right supply (memory_held a.cells.now a.marks.now) a.stack (marks-room t) (marks-too a.marks.now (marks-room t) (fitted t).0) (parts t)
    (sym (ap (place_says 31 0) answer) ∙ keys (goal.at.returns-in-Some-clause-done c).After-unclear_key)

pub make_table-requires : goal.make_table-requires
make_table-requires c =
    let t = (goal.at.make_table-requires c).After-live_table-upper in
    let p = parts t in
    record { fit = (p.sides, p.width_is); marks = lower-marks p (marks-room t) }

pub returns-in_err-made-clause-done : goal.returns-in_err-made-clause-done
unfolding columns_exist made_columns
returns-in_err-made-clause-done c =
    let a = c.args in
    let t = (goal.at.returns-in_err-made-clause-done c).After-live_table-upper in
    let answer = c.in_ok-at.was ∙ ap Ok c.in_default.is in
    λ supply. rw (error-is c.from_residual-in_err-made.ensures.1)
    (too-many-done a.left a.right supply (memory_held a.cells.now a.marks.now) a.stack (marks-room t) (marks-too a.marks.now (marks-room t) (fitted t).0) (parts t)
    (sym (ap (place_says 31 0) answer) ∙ keys (goal.at.returns-in_err-made-clause-done c).After-unclear_key) c.in_err-made.ensures.finished)

pub returns-clause-done : goal.returns-clause-done
unfolding columns_exist made_columns
returns-clause-done c =
    let a = c.args in
    let t = (goal.at.returns-clause-done c).After-live_table-upper in
    let answer = c.in_ok-at.was ∙ ap Ok c.in_default.is in
    λ supply. rw (c.with_table.ensures, (parts t).width_is)
    (rows-made-done a.left a.right supply (memory_held a.cells.now a.marks.now) a.stack (marks-room t) (marks-too a.marks.now (marks-room t) (fitted t).0) (parts t)
    (sym (ap (place_says 31 0) answer) ∙ keys (goal.at.returns-clause-done c).After-unclear_key) c.in_ok-made.ensures.finished)
