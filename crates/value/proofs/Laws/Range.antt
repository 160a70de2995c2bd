-- The range and OVER, and the results that are in range or OVER.
-- Assumes nothing.
use mathlib.Core.Path.{◌≡◌, refl, sym, ◌∙◌}
use mathlib.Core.Logic.{◌⊎◌, inl, inr, ⊎_elim}
use mathlib.Core.Bool.{Bool, true, false, cond, ◌&&◌, true≢false, and-eq-true_iff}
use Prim.Native.Nat.{◌^◌}
use lib.IntN.{ℤ, pos}
use Rattle.value.specs.Range.{least, most, in_range, both_in_range, OVER, settled, of_both}

pub over-out : in_range OVER ≡ false
unfolding in_range OVER least most
over-out = refl

-- the literal that stands for OVER in code
pub over-is : pos (2 ^ 47) ≡ OVER
unfolding OVER
over-is = refl

pub settled-in : (v : ℤ) → in_range v ≡ true → settled v ≡ v
unfolding settled
settled-in v e = rw e

pub settled-out : (v : ℤ) → in_range v ≡ false → settled v ≡ OVER
unfolding settled
settled-out v e = rw e

-- ---- two numbers

pub both-in : (a b : ℤ) → in_range a ≡ true → in_range b ≡ true → both_in_range a b ≡ true
unfolding both_in_range
both-in a b e h = rw (e, h)

pub in_both : (a b : ℤ) → both_in_range a b ≡ true → (in_range a ≡ true) × (in_range b ≡ true)
unfolding both_in_range
in_both a b e = (and-eq-true_iff (in_range a) (in_range b)).0 e

pub both-comm : (a b : ℤ) → both_in_range a b ≡ both_in_range b a
unfolding both_in_range
both-comm a b = and_comm (in_range a) (in_range b)
  where
    and_comm : (s t : Bool) → (s && t) ≡ (t && s)
    and_comm true true = refl
    and_comm true false = refl
    and_comm false true = refl
    and_comm false false = refl

pub left_out : (a b : ℤ) → in_range a ≡ false → both_in_range a b ≡ false
unfolding both_in_range
left_out a b e = rw e

pub right-out : (a b : ℤ) → in_range b ≡ false → both_in_range a b ≡ false
right-out a b e = both-comm a b ∙ left_out b a e

pub of-both-in : (a b z : ℤ) → both_in_range a b ≡ true → of_both a b z ≡ z
unfolding of_both
of-both-in a b z e = rw e

pub of-both-out : (a b z : ℤ) → both_in_range a b ≡ false → of_both a b z ≡ OVER
unfolding of_both
of-both-out a b z e = rw e

-- ---- a result is in range, or it is OVER

abbrev pub Result : ℤ → Type 0
Result v = (in_range v ≡ true) ⊎ (v ≡ OVER)

pub guarded : (t : Bool) (z : ℤ) → (t ≡ true → Result z) → Result (cond t z OVER)
guarded true z h = h refl
guarded false z h = inr refl

pub settled-result : (v : ℤ) → Result (settled v)
unfolding settled
settled-result v = guarded (in_range v) v (λ e. inl e)

pub of-both-result : (a b z : ℤ) → (both_in_range a b ≡ true → Result z) → Result (of_both a b z)
unfolding of_both
of-both-result a b z h = guarded (both_in_range a b) z h

pub result-settled : (v : ℤ) → Result v → settled v ≡ v
result-settled v r = ⊎_elim (settled-in v) (λ e. rw e (settled-out OVER over-out)) r

pub settled-exact : (v : ℤ) → in_range (settled v) ≡ true → settled v ≡ v
settled-exact v e = go (in_range v) refl
  where
    go : (t : Bool) → in_range v ≡ t → settled v ≡ v
    go true h = settled-in v h
    go false h = absurd (true≢false (sym e ∙ rw (settled-out v h) over-out))

pub settled-over : (v : ℤ) → settled v ≡ OVER → in_range v ≡ false
settled-over v e = go (in_range v) refl
  where
    go : (t : Bool) → in_range v ≡ t → t ≡ false
    go true h = absurd (true≢false (sym h ∙ rw (sym (settled-in v h) ∙ e) over-out))
    go false h = refl
