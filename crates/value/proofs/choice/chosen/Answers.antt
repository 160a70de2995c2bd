-- `value::choice::chosen` meets its contract: of the two products one is the number, and the other is zero.
-- Assumes nothing.
use mathlib.Core.Path.{◌≡◌}
use mathlib.Core.Bool.{Bool, true, false, not, cond}
use lib.IntN.{ℤ, pos, one, ◌+ℤ◌, ◌-ℤ◌, ◌*ℤ◌, *ℤ-one, *ℤ-zero, +ℤ_idl, +ℤ_idr}
use mir.Syntax.{w64}
use mir.Val.{SFits}
use mir.Facts.{to_z-of_z}
use borrow.Author.Rules.{sfits_of}
use lib.Dec.{lit<}
use Rattle.value.proofs.Machine.{back, bit, other-bit, other-bit-fits}
use Rattle.value.proofs.choice.chosen.Goals as goal
use Rattle.value.proofs.choice.chosen.Goals.{Start}

-- a number, or zero
part : (t : Bool) (z : ℤ) → z *ℤ bit t ≡ cond t z (pos 0)
unfolding one
part true z = *ℤ-one z
part false z = *ℤ-zero z

part-fits : (t : Bool) {z : ℤ} → SFits w64 z → SFits w64 (cond t z (pos 0))
part-fits true f = f
part-fits false f = sfits_of (lit< tt)

both : (t : Bool) (a b : ℤ) → cond t a (pos 0) +ℤ cond (not t) b (pos 0) ≡ cond t a b
both true a b = +ℤ_idr a
both false a b = +ℤ_idl b

one-fits : (t : Bool) {a b : ℤ} → SFits w64 a → SFits w64 b → SFits w64 (cond t a b)
one-fits true f g = f
one-fits false f g = g

pub overflow_mul-result : goal.overflow_mul-result
overflow_mul-result c = rw (to_z-of_z c.ranges.a, part c.args.first c.args.a) (part-fits c.args.first c.ranges.a)

pub overflow_sub-result : goal.overflow_sub-result
overflow_sub-result c = other-bit-fits c.args.first

pub overflow_mul-result-2 : goal.overflow_mul-result-2
overflow_mul-result-2 c =
    rw (to_z-of_z c.ranges.b, other-bit c.args.first, part (not c.args.first) c.args.b) (part-fits (not c.args.first) c.ranges.b)

-- the sum of the two
sum : (c : Start) → back (back c.args.a *ℤ bit c.args.first) +ℤ back (back c.args.b *ℤ back (pos 1 -ℤ bit c.args.first)) ≡ cond c.args.first c.args.a c.args.b
sum c =
    let t = c.args.first in
    rw (
      to_z-of_z (overflow_mul-result c),
      to_z-of_z (overflow_mul-result-2 c),
      to_z-of_z c.ranges.a,
      to_z-of_z c.ranges.b,
      other-bit t,
      part t c.args.a,
      part (not t) c.args.b,
    )
    (both t c.args.a c.args.b)

pub overflow_add-result : goal.overflow_add-result
overflow_add-result c = rw (sum c) (one-fits c.args.first c.ranges.a c.ranges.b)

pub returns : goal.returns
returns c = rw (sum c) (to_z-of_z (one-fits c.args.first c.ranges.a c.ranges.b))
