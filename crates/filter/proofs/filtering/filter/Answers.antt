-- `filter::filtering::filter` meets its contract. Assumes nothing.
use Prim.Native.Nat.{◌≤◌}
use mathlib.Core.Path.{◌≡◌, sym}
use mathlib.Core.Bool.{true}
use mathlib.Core.List.{[]}
use native.Mathlib.Omega.{arith}
use lib.ListN.{length}
use Rattle.cells.specs.promises.Lent.{memory_held}
use Rattle.cells.specs.promises.Work.{mark_room}
use Rattle.memory.specs.promises.Stack.{widths_to}
use Rattle.memory.specs.promises.Steps.{fits}
use Rattle.plan.specs.Widths.{columns_exist, made_columns}
use Rattle.plan.specs.declared.Step.TheVariants.{Filter}
use Rattle.memory.proofs.Finish.{error-is, unfit-done, columns-fit, columns-misfit, marks-too, marks-short, not-even}
use Rattle.memory.proofs.LiveTables.{marks-inside}
use Rattle.filter.proofs.FilterMeaning.{FilterFits, filter_parts, filter-refused, filter-fits-still, filter-made}
use Rattle.operand.proofs.Laws.{operand-more}
use Rattle.filter.proofs.filtering.filter.Goals as goal
use Rattle.filter.proofs.filtering.filter.Goals.{After-live_table-top}

fitted : (c : After-live_table-top) → let a = c.args in (fits (Filter a.column a.comparison a.operand) [] (length a.cells.now.values.now) (length a.cells.now.labels.now) a.stack ≡ true) × (c.in_ok-columns.columns ≡ made_columns (Filter a.column a.comparison a.operand) [] (widths_to a.stack a.stack.depth))
fitted c = columns-fit _ _ (sym c.in_ok-columns.ensures)

parts : (c : After-live_table-top) → let a = c.args in FilterFits a.column a.operand (length a.cells.now.values.now) (length a.cells.now.labels.now) a.stack c.live_table-top.result c.in_ok-columns.columns
parts c = let a = c.args in filter_parts a.column a.comparison a.operand [] _ _ a.stack _ _ c.live_table-top.ensures (fitted c).0 (fitted c).1

-- the marks are enough
room : (c : After-live_table-top) → mark_room ≤ length c.args.marks.now
room c = c.if-marks-lt-MARK_ROOM.false

pub returns-then-marks-lt-MARK_ROOM-clause-done : goal.returns-then-marks-lt-MARK_ROOM-clause-done
returns-then-marks-lt-MARK_ROOM-clause-done c =
    let a = c.args in
    λ supply. unfit-done (Filter a.column a.comparison a.operand) supply _ _ (marks-short _ a.marks.now c.if-marks-lt-MARK_ROOM.true)

pub returns-in_err-columns-clause-done : goal.returns-in_err-columns-clause-done
unfolding columns_exist made_columns
returns-in_err-columns-clause-done c =
    let a = c.args in
    λ supply. rw (error-is c.from_residual.ensures.1)
    (unfit-done (Filter a.column a.comparison a.operand) supply _ _ (not-even a.marks.now (columns-misfit _ _ (sym c.in_err-columns.ensures))))

pub read_by-read-requires : goal.read_by-read-requires
read_by-read-requires c = let p = parts c in (omega (arith, p.below, p.inside_is.few-columns), operand-more c.args.operand _ 8 p.inside_is.few-columns p.operand_below)

pub filter_rows-kept-requires : goal.filter_rows-kept-requires
filter_rows-kept-requires c =
    let p = parts (goal.at.filter_rows-kept-requires c).After-live_table-top in
    record { inside = (p.inside_is, marks-inside p.here p.is-ready (room (goal.at.filter_rows-kept-requires c).After-live_table-top)); column_lt_columns = (p.below, p.operand_below) }

pub returns-in_err-at-clause-done : goal.returns-in_err-at-clause-done
unfolding columns_exist made_columns
returns-in_err-at-clause-done c =
    let a = c.args in
    let p = (goal.at.returns-in_err-at-clause-done c).After-live_table-top in
    λ supply. absurd (filter-fits-still a.column a.comparison a.operand supply (memory_held a.cells.now a.marks.now) a.stack (room p) (marks-too a.marks.now (room p) (fitted p).0) (parts p)
    _ c.read_by-read.ensures (rw c.area.ensures at (c.in_err-at.ensures 31 0)))

pub returns-in-Some-clause-done : goal.returns-in-Some-clause-done
unfolding columns_exist made_columns
returns-in-Some-clause-done c =
    let a = c.args in
    let p = (goal.at.returns-in-Some-clause-done c).After-live_table-top in
    λ supply. filter-refused a.column a.comparison a.operand supply (memory_held a.cells.now a.marks.now) a.stack (room p) (marks-too a.marks.now (room p) (fitted p).0) (parts p)
    _ c.read_by-read.ensures c.in-Some.at (rw (c.in-Some.is, c.area.ensures) at (c.in_ok-at.ensures 31 0))

pub returns-clause-done : goal.returns-clause-done
unfolding columns_exist made_columns
returns-clause-done c =
    let a = c.args in
    let p = (goal.at.returns-clause-done c).After-live_table-top in
    λ supply. rw c.with_table.ensures (filter-made a.column a.comparison a.operand supply (memory_held a.cells.now a.marks.now) a.stack (room p) (marks-too a.marks.now (room p) (fitted p).0) (parts p)
    _ c.read_by-read.ensures _ (rw (c.in_default.is, c.area.ensures) at (c.in_ok-at.ensures 31 0)) c.filter_rows-kept.ensures.done)
