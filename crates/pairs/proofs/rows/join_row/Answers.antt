-- `pairs::rows::join_row` meets its contract. The rows of the first right rows are made. Assumes nothing.
use Prim.Native.Nat.{ℕ, ◌+◌, ◌-◌, ◌*◌, ◌≤◌, ◌<◌}
use mathlib.Core.Path.{◌≡◌, refl, sym, ap, ◌∙◌}
use native.Mathlib.Nat.{mul-le-mul_right, zero-mul, add-mul}
use native.Mathlib.Omega.{arith}
use Rattle.std.specs.Prelude.{Result, Ok}
use lib.IntN.{ℤ, pos}
use lib.ListN.{get_or}
use Rattle.value.specs.Equality.{eq_z}
use Rattle.cells.specs.promises.Lent.{work_held}
use Rattle.cells.specs.promises.Work.{Work, cells_in}
use Rattle.pairs.specs.declared.TooMany.{TooMany}
use Rattle.pairs.specs.promises.Pairs.{Grown, pair_rows}
use Rattle.value.proofs.Machine.{back_is}
use Rattle.pairs.proofs.Growing.{none_made, few-made, passed-on}
use Rattle.pairs.proofs.Same.{same-then}
use Rattle.pairs.proofs.Turns.{right-next, rights-skipped, rights-over, Paired}
use Rattle.pairs.proofs.rows.join_row.Goals as goal
use Rattle.pairs.proofs.rows.join_row.Goals.{After-unlike-skipped}

pub overflow_mul-at : goal.overflow_mul-at
overflow_mul-at c = omega (arith, mul-le-mul_right c.args.sides.left.table.columns c.requires.row_lt_rows.0)

pub overflow_add-at : goal.overflow_add-at
overflow_add-at c = omega (arith, mul-le-mul_right c.args.sides.left.table.columns c.requires.row_lt_rows.0)

pub loop-i-init : goal.loop-i-init
loop-i-init c =
    let a = c.args in (
      omega arith,
      omega (arith, zero-mul a.sides.right.table.columns),
      omega (arith, mul-le-mul_right a.sides.left.table.columns c.requires.row_lt_rows.0),
      none_made (work_held a.cells.now) c.requires.fit c.requires.row_lt_rows.1,
      record { values-same = refl; labels-same = refl },
    )

pub overflow_add-other : goal.overflow_add-other
overflow_add-other c =
    omega (arith, c.loop-i.invariant.1, mul-le-mul_right c.args.sides.right.table.columns c.loop-i-test.true, c.requires.fit.right-below, c.requires.fit.right_key)

pub unlike-skipped-requires : goal.unlike-skipped-requires
unlike-skipped-requires c =
    let a = c.args in
    let all : c.loop-i.i + (a.sides.right.table.rows - c.loop-i.i) ≡ a.sides.right.table.rows = omega (arith, c.loop-i-test.true) in
    let whole = add-mul c.loop-i.i (a.sides.right.table.rows - c.loop-i.i) a.sides.right.table.columns in
    let product = ap (λ (n : ℕ). n * a.sides.right.table.columns) all in (
      omega (arith, c.requires.fit.few, c.requires.fit.left_key),
      omega (arith, c.loop-i.invariant.1, whole, product, c.requires.fit.right-below, c.requires.fit.right_key, c.requires.fit.values-room, c.loop-i.invariant.3.kept.as-many-values),
    )

-- the right rows that are passed over
few : (c : After-unlike-skipped) → c.loop-i.i + c.unlike-skipped.result ≤ c.args.sides.right.table.rows
few c = omega (arith, c.unlike-skipped.ensures.0, c.loop-i-test.true)

place_is : (c : After-unlike-skipped) → c.loop-i.other + c.unlike-skipped.result * c.args.sides.right.table.columns ≡ c.args.sides.right.table.at + (c.loop-i.i + c.unlike-skipped.result) * c.args.sides.right.table.columns
place_is c = omega (arith, c.loop-i.invariant.1, add-mul c.loop-i.i c.unlike-skipped.result c.args.sides.right.table.columns)

skip : (c : After-unlike-skipped) → let a = c.args in Paired a.sides.left a.sides.right (work_held a.cells.now) a.made (a.sides.left.table.at + a.row * a.sides.left.table.columns) (c.loop-i.i + c.unlike-skipped.result) (Ok c.loop-i.count) (work_held c.loop-i.cells)
skip c =
    let a = c.args in
    rights-skipped (work_held a.cells.now) c.requires.fit (a.sides.left.table.at + a.row * a.sides.left.table.columns) c.loop-i.invariant.2 c.loop-i.other c.loop-i.i c.unlike-skipped.result (few c) c.loop-i.invariant.1 c.loop-i.invariant.3
    (λ j h. ap (λ (z : ℤ). eq_z z (get_or c.loop-i.cells.values.now (c.loop-i.other + a.sides.right.key + j * a.sides.right.table.columns) (pos 0))) (sym (back_is _ c.key-1.given)) ∙ c.unlike-skipped.ensures.1 j h)

pub overflow_mul-other : goal.overflow_mul-other
overflow_mul-other c =
    let a = c.args in
    omega (arith, mul-le-mul_right a.sides.right.table.columns (few (goal.at.overflow_mul-other c).After-unlike-skipped), add-mul c.loop-i.i c.unlike-skipped.result a.sides.right.table.columns, c.requires.fit.right-below)

pub overflow_add-other-in-loop-i : goal.overflow_add-other-in-loop-i
overflow_add-other-in-loop-i c = omega (arith, place_is (goal.at.overflow_add-other-in-loop-i c).After-unlike-skipped, mul-le-mul_right c.args.sides.right.table.columns (few (goal.at.overflow_add-other-in-loop-i c).After-unlike-skipped), c.requires.fit.right-below)

pub join_pair-requires-clause-columns_bound : goal.join_pair-requires-clause-columns_bound
join_pair-requires-clause-columns_bound c =
    let a = c.args in
    let place = place_is (goal.at.join_pair-requires-clause-columns_bound c).After-unlike-skipped in
    (c.loop-i.invariant.2, omega (arith, place, mul-le-mul_right a.sides.right.table.columns c.if-i-rows.true, c.requires.fit.right-below), few-made (work_held a.cells.now) c.requires.fit c.loop-i.invariant.3)

-- a turn of the loop
next : (c : After-unlike-skipped) → (total : Result ℕ TooMany) (x : Work) → let a = c.args in c.loop-i.i + c.unlike-skipped.result < a.sides.right.table.rows
    → Grown c.loop-i.count a.sides.left a.sides.right (pair_rows (cells_in (work_held c.loop-i.cells)) a.sides.left a.sides.right (a.sides.left.table.at + a.row * a.sides.left.table.columns) (c.loop-i.other + c.unlike-skipped.result * a.sides.right.table.columns)) (work_held c.loop-i.cells) total x
    → Paired a.sides.left a.sides.right (work_held a.cells.now) a.made (a.sides.left.table.at + a.row * a.sides.left.table.columns) (c.loop-i.i + c.unlike-skipped.result + 1) total x
next c total x more g =
    let a = c.args in
    right-next (work_held a.cells.now) c.requires.fit (a.sides.left.table.at + a.row * a.sides.left.table.columns) c.loop-i.invariant.2 (c.loop-i.other + c.unlike-skipped.result * a.sides.right.table.columns) (c.loop-i.i + c.unlike-skipped.result) more (place_is c) (skip c) g

pub returns-in_err-count-clause-grown : goal.returns-in_err-count-clause-grown
returns-in_err-count-clause-grown c =
    let a = c.args in
    rw (passed-on _ c.from_residual.result c.from_residual.ensures.1)
    (rights-over (work_held a.cells.now) c.requires.fit (a.sides.left.table.at + a.row * a.sides.left.table.columns) c.loop-i.invariant.2 (c.loop-i.i + c.unlike-skipped.result + 1) (omega (arith, c.if-i-rows.true))
    (next (goal.at.returns-in_err-count-clause-grown c).After-unlike-skipped _ _ c.if-i-rows.true c.in_err-count.ensures.grown))

pub loop-i-preserved-then-i-rows : goal.loop-i-preserved-then-i-rows
loop-i-preserved-then-i-rows c =
    let at-search = (goal.at.loop-i-preserved-then-i-rows c).After-unlike-skipped in (
      omega (arith, c.if-i-rows.true),
      omega (arith, place_is at-search),
      c.loop-i.invariant.2,
      next at-search _ _ c.if-i-rows.true c.in_ok-count.ensures.grown,
      same-then c.loop-i.invariant.4 c.in_ok-count.ensures.same,
    )

pub loop-i-preserved : goal.loop-i-preserved
loop-i-preserved c =
    let at-search = (goal.at.loop-i-preserved c).After-unlike-skipped in
    (few at-search, place_is at-search, c.loop-i.invariant.2, skip at-search, c.loop-i.invariant.4)

pub returns-clause-grown : goal.returns-clause-grown
returns-clause-grown c =
    let e : c.loop-i.i ≡ c.args.sides.right.table.rows = omega arith in
    rw e at c.loop-i.invariant.3
