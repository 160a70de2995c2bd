-- `join::keys::unclear_key` meets its contract. Assumes nothing.
use Prim.Native.Nat.{◌+◌}
use mathlib.Core.Path.{◌≡◌, sym, ap, ◌∙◌}
use native.Mathlib.Nat.{zero-add}
use native.Mathlib.Omega.{arith}
use lib.Dec.{eqb}
use lib.ListN.{drop}
use Rattle.std.specs.Prelude.{Ok}
use Rattle.pairs.specs.promises.Pairs.{side_labels}
use Rattle.cells.specs.promises.Search.{place_says, says}
use Rattle.plan.specs.Join.{check_join}
use Rattle.plan.specs.Verdict.{refused, fine, not_clear}
use Rattle.join.proofs.KeyLabels.{key-search, grid-length, in_rows, first-stands, none-left}
use Rattle.memory.proofs.Finish.{says_is, never-unfit}
use Rattle.join.proofs.keys.unclear_key.Goals as goal
use Rattle.join.proofs.keys.unclear_key.Goals.{After-not_clear, After-not_clear-2, Else-is_some, In-Some}

left-told : (c : After-not_clear) → let a = c.args in place_says 31 0 c.not_clear.result ≡ says (not_clear (λ i. eqb i a.sides.left.key) 31 0 (side_labels a.cells.now.labels.now a.sides.left))
left-told c =
    let sides = c.requires in
    key-search c.args.cells.now.labels.now c.args.sides.left 0 c.not_clear.result sides.left-rows (omega (arith, sides.few)) sides.left_key (omega (arith, sides.left_below, sides.labels-room)) (rw c.area.ensures at (c.not_clear.ensures 31 0))

right-told : (c : After-not_clear-2) → let a = c.args in place_says 31 a.sides.left.table.rows c.not_clear-2.result ≡ says (not_clear (λ i. eqb i a.sides.right.key) 31 a.sides.left.table.rows (side_labels a.cells.now.labels.now a.sides.right))
right-told c =
    let sides = c.requires in
    key-search c.args.cells.now.labels.now c.args.sides.right c.args.sides.left.table.rows c.not_clear-2.result sides.right-rows (omega (arith, sides.few, sides.left_key)) sides.right_key (omega (arith, sides.right-below, sides.labels-room)) (rw c.area-2.ensures at (c.not_clear-2.ensures 31 c.args.sides.left.table.rows))

pub returns-in_err-first : goal.returns-in_err-first
returns-in_err-first c = absurd (never-unfit (sym (ap (place_says 31 0) c.in_err-first.was) ∙ left-told (goal.at.returns-in_err-first c).After-not_clear))

pub returns-then-is_some : goal.returns-then-is_some
unfolding check_join
returns-then-is_some c =
    first-stands c.in_ok-first.first _ _ c.if-is_some.ensures (sym (ap (place_says 31 0) c.in_ok-first.was) ∙ left-told (goal.at.returns-then-is_some c).After-not_clear)

pub returns-in_err-second : goal.returns-in_err-second
returns-in_err-second c = absurd (never-unfit (sym (ap (place_says 31 c.args.sides.left.table.rows) c.in_err-second.was) ∙ right-told (goal.at.returns-in_err-second c).After-not_clear-2))

-- the left keys are clear
left-fine : (c : Else-is_some) → let a = c.args in not_clear (λ i. eqb i a.sides.left.key) 31 0 (side_labels a.cells.now.labels.now a.sides.left) ≡ fine
left-fine c = says_is (sym (key-search c.args.cells.now.labels.now c.args.sides.left 0 c.not_clear.result c.requires.left-rows (omega (arith, c.requires.few)) c.requires.left_key (omega (arith, c.requires.left_below, c.requires.labels-room)) (rw c.area.ensures at (c.not_clear.ensures 31 0))) ∙ ap (place_says 31 0) (c.in_ok-first.was ∙ ap Ok (none-left c.in_ok-first.first c.if-is_some.ensures)))

pub returns-in_default : goal.returns-in_default
unfolding check_join
returns-in_default c =
    let a = c.args in
    let told = right-told (goal.at.returns-in_default c).After-not_clear-2 in
    rw (left-fine (goal.at.returns-in_default c).Else-is_some, grid-length a.sides.left.table.columns a.sides.left.table.rows (drop a.sides.left.table.at a.cells.now.labels.now))
    (sym (ap (place_says 31 a.sides.left.table.rows) (c.in_ok-second.was ∙ ap Ok c.in_default.is)) ∙ told)

-- a right key that is found
right-found : (c : In-Some) → let a = c.args in not_clear (λ i. eqb i a.sides.right.key) 31 a.sides.left.table.rows (side_labels a.cells.now.labels.now a.sides.right) ≡ refused 31 (a.sides.left.table.rows + c.in-Some.at.row) c.in-Some.at.column
right-found c =
    let sides = c.requires in
    let told = key-search c.args.cells.now.labels.now c.args.sides.right c.args.sides.left.table.rows c.not_clear-2.result sides.right-rows (omega (arith, sides.few, sides.left_key)) sides.right_key (omega (arith, sides.right-below, sides.labels-room)) (rw c.area-2.ensures at (c.not_clear-2.ensures 31 c.args.sides.left.table.rows)) in
    says_is (sym told ∙ ap (place_says 31 c.args.sides.left.table.rows) (c.in_ok-second.was ∙ ap Ok c.in-Some.is))

pub overflow_add-result : goal.overflow_add-result
overflow_add-result c =
    let a = c.args in
    omega (arith, in_rows (λ i. eqb i a.sides.right.key) 31 a.sides.right.table.columns a.sides.right.table.rows a.sides.left.table.rows (drop a.sides.right.table.at a.cells.now.labels.now) (right-found (goal.at.overflow_add-result c).In-Some), c.requires.left-rows, c.requires.right-rows)

pub returns : goal.returns
unfolding check_join
returns c =
    let a = c.args in
    rw (left-fine (goal.at.returns c).Else-is_some, grid-length a.sides.left.table.columns a.sides.left.table.rows (drop a.sides.left.table.at a.cells.now.labels.now), zero-add, right-found (goal.at.returns c).In-Some)
