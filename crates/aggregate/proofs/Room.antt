-- A sum that has room, and a value more: it fits 64 bits.
-- Assumes nothing.
use mathlib.Core.Path.{◌≡◌, sym, ◌∙◌}
use mathlib.Core.Bool.{true, ◌&&◌, and-eq-true_iff}
use Prim.Native.Nat.{◌-◌, ◌^◌, ◌<◌}
use native.Mathlib.Omega.{arith}
use lib.IntN.{ℤ, ◌+ℤ◌}
use lib.Signed.{mag}
use mir.Syntax.{w64}
use mir.Val.{SFits}
use borrow.Author.Tests.{leb-true, le-leb}
use borrow.Author.Rules.{sfits_of}
use Rattle.value.specs.Range.{in_range}
use Rattle.aggregate.specs.Aggregate.{has_room}
use Rattle.value.proofs.Integers.{mag-plus}
use Rattle.value.proofs.Sizes.{between, in_size}

pub room-size : (z : ℤ) → has_room z ≡ true → mag z < 2 ^ 62
unfolding has_room
room-size z e = omega (arith, leb-true (mag z) (2 ^ 62 - 1) (sym (between (2 ^ 62 - 1) z) ∙ e))

pub size_room : (z : ℤ) → mag z < 2 ^ 62 → has_room z ≡ true
unfolding has_room
size_room z h = between (2 ^ 62 - 1) z ∙ le-leb (mag z) (2 ^ 62 - 1) (omega arith)

pub total-fits : (v total : ℤ) → (in_range v && has_room total) ≡ true → SFits w64 (total +ℤ v)
total-fits v total e =
    let h = (and-eq-true_iff (in_range v) (has_room total)).0 e in
    sfits_of (omega (arith, mag-plus total v (room-size total h.1) (in_size v h.0)))
