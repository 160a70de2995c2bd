-- `csv_writer::write::put_digits` meets its contract. The loop's invariant: the last digits are written. Assumes nothing.
use Prim.Native.Nat.{◌+◌}
use mathlib.Core.Path.{◌≡◌, ◌∙◌}
use mathlib.Core.List.{[], ◌∷◌}
use native.Mathlib.Omega.{arith}
use lib.ListN.{length-set}
use Rattle.cells.proofs.Written.{as_long}
use Rattle.csv_text.specs.Text.{digits}
use Rattle.csv_writer.specs.promises.Cells.{pair_of}
use Rattle.csv_writer.proofs.Digits.{digits-one, digits-two}
use Rattle.csv_writer.proofs.Writing.{digits-begin, left-room, pair_left, pair_put, last-room, last-put, one-put}
use Rattle.csv_writer.proofs.write.put_digits.Goals as goal
use Rattle.csv_writer.proofs.write.put_digits.Goals.{Else-rest-ge10, Then-rest-ge10}

-- the digits before the last pairs
two : (c : Then-rest-ge10) → let r = c.loop-rest.rest in digits r ≡ pair_of r
two c = digits-two c.loop-rest.rest c.if-rest-ge10.true c.loop-rest-test.false

one : (c : Else-rest-ge10) → let r = c.loop-rest.rest in digits r ≡ (48 + r) ∷ []
one c = digits-one c.loop-rest.rest c.if-rest-ge10.false

pub loop-rest-init : goal.loop-rest-init
loop-rest-init c = let a = c.args in digits-begin a.text.now a.at a.n a.count c.requires.0 c.requires.1

pub overflow_sub-left : goal.overflow_sub-left
overflow_sub-left c = pair_left c.loop-rest.invariant c.loop-rest-test.true

pub overflow_add-at : goal.overflow_add-at
overflow_add-at c = omega (arith, left-room c.loop-rest.invariant)

pub put_pair-requires : goal.put_pair-requires
put_pair-requires c =
    let s = c.loop-rest.invariant in
    (omega arith, omega (arith, left-room s, pair_left s c.loop-rest-test.true))

pub loop-rest-smaller : goal.loop-rest-smaller
loop-rest-smaller c = omega (arith, pair_left c.loop-rest.invariant c.loop-rest-test.true)

pub loop-rest-preserved : goal.loop-rest-preserved
loop-rest-preserved c = pair_put c.loop-rest.invariant c.loop-rest-test.true c.put_pair.ensures

pub put_pair-requires-then-rest-ge10 : goal.put_pair-requires-then-rest-ge10
put_pair-requires-then-rest-ge10 c = (omega arith, last-room c.loop-rest.invariant (two (goal.at.put_pair-requires-then-rest-ge10 c).Then-rest-ge10))

pub overflow_cast-text : goal.overflow_cast-text
overflow_cast-text c = omega arith

pub overflow_add-text : goal.overflow_add-text
overflow_add-text c = omega arith

pub bounds-text-at : goal.bounds-text-at
bounds-text-at c = omega (arith, last-room c.loop-rest.invariant (one c))

pub shape_of-text-then-rest-ge10 : goal.shape_of-text-then-rest-ge10
shape_of-text-then-rest-ge10 c = as_long c.put_pair-then-rest-ge10.ensures ∙ as_long c.loop-rest.invariant.written

pub returns-then-rest-ge10 : goal.returns-then-rest-ge10
returns-then-rest-ge10 c = last-put c.loop-rest.invariant (two (goal.at.returns-then-rest-ge10 c).Then-rest-ge10) c.put_pair-then-rest-ge10.ensures

pub shape_of-text-else-rest-ge10 : goal.shape_of-text-else-rest-ge10
shape_of-text-else-rest-ge10 c = simp length-set (as_long c.loop-rest.invariant.written)

pub returns-else-rest-ge10 : goal.returns-else-rest-ge10
returns-else-rest-ge10 c = last-put c.loop-rest.invariant (one c) (one-put _ c.args.at _ (bounds-text-at c))
