-- The machine's view of a number: it is written as 64 bits and read back.
-- Assumes nothing.
use mathlib.Core.Path.{◌≡◌, refl, sym, ap, ap₂, ◌∙◌}
use mathlib.Core.Bool.{Bool, true, false, not, true≢false}
use Prim.Native.Nat.{◌^◌, ◌<◌}
use lib.Dec.{eqb, lit<}
use lib.IntN.{ℤ, pos, ◌-ℤ◌}
use lib.Signed.{mag}
use mir.Syntax.{w64}
use mir.Val.{SFits, of_z, to_z, bool_byte}
use mir.Facts.{to_z-of_z}
use borrow.Author.Rules.{sfits_of}
use borrow.Author.Tests.{eq-eqb, ne_eqb}
use Rattle.value.specs.Equality.{eq_z}
use Rattle.value.proofs.Laws.Equality.{eq_z-refl, eq_z-eq}

-- a number, written and read back
abbrev pub back : ℤ → ℤ
back z = to_z w64 (of_z w64 z)

pub back_is : (z : ℤ) → mag z < 2 ^ 63 → back z ≡ z
back_is z h = to_z-of_z {w = w64} (sfits_of h)

-- what a callee answered, as the machine reads it
pub answered : {r z : ℤ} → mag r < 2 ^ 63 → r ≡ z → back r ≡ z
answered {r} h e = back_is r h ∙ e

-- what a callee says of an argument as the machine reads it, said of the argument
pub said : {A : Type 0} (P : ℤ → A) {v : ℤ} {r : A} → SFits w64 v → r ≡ P (back v) → r ≡ P v
said P f e = e ∙ ap P (to_z-of_z f)

pub said₂ : {A : Type 0} (P : ℤ → ℤ → A) {a b : ℤ} {r : A} → SFits w64 a → SFits w64 b → r ≡ P (back a) (back b) → r ≡ P a b
said₂ P f g e = e ∙ ap₂ P (to_z-of_z f) (to_z-of_z g)

-- equal bits are equal numbers
pub eqb-bits : (a b : ℤ) → SFits w64 a → SFits w64 b → eqb (of_z w64 a) (of_z w64 b) ≡ eq_z a b
eqb-bits a b f g = go (eq_z a b) refl
  where
    go : (t : Bool) → eq_z a b ≡ t → eqb (of_z w64 a) (of_z w64 b) ≡ t
    go true e = eq-eqb (of_z w64 a) (of_z w64 b) (ap (of_z w64) (eq_z-eq a b e))
    go false e =
        ne_eqb (of_z w64 a) (of_z w64 b)
        (λ h. true≢false (sym (eq_z-refl a) ∙ ap (eq_z a) (sym (to_z-of_z f) ∙ ap (to_z w64) h ∙ to_z-of_z g) ∙ e))

-- a Boolean as a number, 1 or 0, and the other one of the two
abbrev pub bit : Bool → ℤ
bit t = to_z w64 (bool_byte t)

pub other-bit : (t : Bool) → back (pos 1 -ℤ bit t) ≡ bit (not t)
other-bit true = refl
other-bit false = refl

pub other-bit-fits : (t : Bool) → SFits w64 (pos 1 -ℤ bit t)
other-bit-fits true = sfits_of (lit< tt)
other-bit-fits false = sfits_of (lit< tt)
