-- `label_bytes::test::upper_ones` meets its contract. Assumes nothing.
use Prim.Native.Nat.{◌/◌}
use mathlib.Core.Path.{◌≡◌, refl}
use native.Mathlib.Nat.{zero-add}
use native.Mathlib.Omega.{arith}
use lib.Count.{ones, ones_step, ones-le}
use Rattle.label_bytes.proofs.test.upper_ones.Goals as goal

pub loop-rest-init : goal.loop-rest-init
loop-rest-init c = rw zero-add

pub overflow_add-count : goal.overflow_add-count
overflow_add-count c = omega (arith, ones_step c.loop-rest.rest, ones-le 8 (c.args.byte / 16) (omega arith))

pub loop-rest-smaller : goal.loop-rest-smaller
loop-rest-smaller c = omega arith

pub loop-rest-preserved : goal.loop-rest-preserved
loop-rest-preserved c = omega (arith, ones_step c.loop-rest.rest)

pub returns : goal.returns
unfolding ones
returns c = let z : ones c.loop-rest.rest ≡ 0 = rw c.loop-rest-test.false refl in omega arith
