-- `union::uniting::union` meets its contract. Assumes nothing.
use Prim.Native.Nat.{◌≤◌}
use mathlib.Core.Path.{◌≡◌, sym}
use mathlib.Core.Bool.{true}
use mathlib.Core.List.{[]}
use native.Mathlib.Omega.{arith}
use lib.ListN.{length}
use Rattle.cells.specs.promises.Lent.{memory_held}
use Rattle.cells.specs.promises.Work.{mark_room}
use Rattle.memory.specs.promises.Stack.{widths_to}
use Rattle.memory.specs.promises.Steps.{fits}
use Rattle.plan.specs.Widths.{columns_exist, made_columns}
use Rattle.plan.specs.declared.Step.TheVariants.{Union}
use Rattle.cells.proofs.CellLaws.{values_moved, labels-moved}
use Rattle.memory.proofs.Finish.{error-is, unfit-done, columns-fit, columns-misfit, marks-too, marks-short, not-even}
use Rattle.union.proofs.UnionMeaning.{UnionFits, union-parts, union-many, in-values, in-labels, marks-moved, union_left}
use Rattle.union.proofs.uniting.union.Goals as goal
use Rattle.union.proofs.uniting.union.Goals.{After-live_table-right}

fitted : (c : After-live_table-right) → let a = c.args in (fits Union [] (length a.cells.now.values.now) (length a.cells.now.labels.now) a.stack ≡ true) × (c.in_ok-columns.columns ≡ made_columns Union [] (widths_to a.stack a.stack.depth))
fitted c = columns-fit _ _ (sym c.in_ok-columns.ensures)

parts : (c : After-live_table-right) → let a = c.args in UnionFits (length a.cells.now.values.now) (length a.cells.now.labels.now) a.stack c.live_table-left.result c.live_table-right.result c.in_ok-columns.columns
parts c = union-parts [] _ _ c.args.stack _ _ _ c.live_table-left.ensures c.live_table-right.ensures (fitted c).0 (fitted c).1

-- the marks are enough
room : (c : After-live_table-right) → mark_room ≤ length c.args.marks.now
room c = c.if-marks-lt-MARK_ROOM.false

pub returns-then-marks-lt-MARK_ROOM-clause-done : goal.returns-then-marks-lt-MARK_ROOM-clause-done
returns-then-marks-lt-MARK_ROOM-clause-done c = λ supply. unfit-done Union supply _ _ (marks-short _ c.args.marks.now c.if-marks-lt-MARK_ROOM.true)

pub returns-in_err-columns-clause-done : goal.returns-in_err-columns-clause-done
unfolding columns_exist made_columns
returns-in_err-columns-clause-done c =
    λ supply. rw (error-is c.from_residual.ensures.1)
    (unfit-done Union supply _ _ (not-even c.args.marks.now (columns-misfit _ _ (sym c.in_err-columns.ensures))))

pub overflow_add-left : goal.overflow_add-left
overflow_add-left c = let f = parts (goal.at.overflow_add-left c).After-live_table-right in omega (arith, f.few-left, f.few-right)

pub returns-then-left-right-gt256-clause-done : goal.returns-then-left-right-gt256-clause-done
unfolding columns_exist made_columns
returns-then-left-right-gt256-clause-done c =
    let a = c.args in
    let p = (goal.at.returns-then-left-right-gt256-clause-done c).After-live_table-right in
    λ supply. union-many supply (memory_held a.cells.now a.marks.now) a.stack (room p) (marks-too a.marks.now (room p) (fitted p).0) (parts p) c.if-left-right-gt256.true

pub overflow_mul-behind : goal.overflow_mul-behind
overflow_mul-behind c = omega (arith, (parts (goal.at.overflow_mul-behind c).After-live_table-right).cells-left)

pub overflow_add-behind : goal.overflow_add-behind
overflow_add-behind c = let f = parts (goal.at.overflow_add-behind c).After-live_table-right in omega (arith, f.cells-left, f.left_at, f.lower.low)

pub overflow_mul-right : goal.overflow_mul-right
overflow_mul-right c = omega (arith, (parts (goal.at.overflow_mul-right c).After-live_table-right).cells_right)

pub overflow_add-behind_marks : goal.overflow_add-behind_marks
overflow_add-behind_marks c = let f = parts (goal.at.overflow_add-behind_marks c).After-live_table-right in omega (arith, f.few-left, f.left-marks, f.lower.low)

pub returns-clause-done : goal.returns-clause-done
unfolding columns_exist made_columns
returns-clause-done c =
    let a = c.args in
    let p = (goal.at.returns-clause-done c).After-live_table-right in
    let w = memory_held a.cells.now a.marks.now in
    let m = c.move_cells.ensures in
    let n = c.move_marks.ensures in
    λ supply.
    let t = marks-too a.marks.now (room p) (fitted p).0 in
    let v = in-values supply w a.stack (room p) t (parts p) in
    let k = in-labels supply w a.stack (room p) t (parts p) in
    rw c.with_table.ensures (union_left supply w a.stack (room p) t (parts p) c.if-left-right-gt256.false
    (values_moved w.work v k m.value m.values_after m.labels_after) (labels-moved w.work v k m.value m.values_after m.labels_after) (marks-moved supply w a.stack (room p) t (parts p) n.value n.marks_after))
