-- Keys that are passed over. Assumes nothing.
use Prim.Native.Nat.{ℕ, zero, suc, ◌+◌, ◌-◌, ◌<◌}
use mathlib.Core.Path.{◌≡◌, refl, sym, ap, subst, ◌∙◌}
use mathlib.Core.Bool.{Bool, true, false, ◌||◌, true≢false}
use mathlib.Core.List.{List}
use native.Mathlib.Omega.{arith}
use mir.Syntax.{w64}
use mir.Val.{to_z, of_z, SFits}
use mir.Facts.{to_z-of_z}
use lib.Dec.{eqb, ltb}
use lib.IntN.{ℤ, pos}
use lib.ListN.{get_or}
use borrow.Author.Tests.{ltb-true, ltb-false}
use Rattle.value.specs.Equality.{eq_z}
use Rattle.value.proofs.Machine.{eqb-bits}

-- the key as the machine has it
pub as-key : (key z : ℤ) → SFits w64 key → eq_z (to_z w64 (of_z w64 key)) z ≡ false → eq_z key z ≡ false
as-key key z f e = ap (λ (k : ℤ). eq_z k z) (sym (to_z-of_z f)) ∙ e

pub as_bits : (key z : ℤ) → SFits w64 key → SFits w64 z → eqb (of_z w64 key) (of_z w64 z) ≡ false → eq_z (to_z w64 (of_z w64 key)) z ≡ false
as_bits key z f g e = ap (λ (k : ℤ). eq_z k z) (to_z-of_z f) ∙ sym (eqb-bits key z f g) ∙ e

-- the value at a place, however its number is written
pub unlike-at : (values : List ℤ) (key : ℤ) {m n : ℕ} → m ≡ n → SFits w64 key → SFits w64 (get_or values m (pos 0))
    → eqb (of_z w64 key) (of_z w64 (get_or values m (pos 0))) ≡ false → eq_z key (get_or values n (pos 0)) ≡ false
unlike-at values key {m} e f g b = subst (λ (k : ℕ). eq_z key (get_or values k (pos 0)) ≡ false) e (as-key key (get_or values m (pos 0)) f (as_bits key (get_or values m (pos 0)) f g b))

-- what holds below a number and of so many from it on
pub some_more : (P : ℕ → Type 0) (i n : ℕ) → ((j : ℕ) → j < i → P j) → ((j : ℕ) → j < n → P (i + j)) → (j : ℕ) → j < i + n → P j
some_more P i n below there j h = either (ltb j i) refl
  where
    either : (t : Bool) → ltb j i ≡ t → P j
    either true e = below j (ltb-true j i e)
    either false e =
        let same : i + (j - i) ≡ j = omega (arith, ltb-false j i e) in
        subst P same (there (j - i) (omega (arith, ltb-false j i e)))

pub one-more : (P : ℕ → Type 0) (i : ℕ) → ((j : ℕ) → j < i → P j) → P i → (j : ℕ) → j < i + 1 → P j
one-more P i below there = some_more P i 1 below (λ j h. let e : i ≡ i + j = omega (arith, h) in subst P e there)

pub each-of-four : (P : ℕ → Type 0) → P 0 → P 1 → P 2 → P 3 → (j : ℕ) → j < 4 → P j
each-of-four P p q r s zero h = p
each-of-four P p q r s (suc zero) h = q
each-of-four P p q r s (suc (suc zero)) h = r
each-of-four P p q r s (suc (suc (suc zero))) h = s
each-of-four P p q r s (suc (suc (suc (suc j)))) h = absurd (omega arith)

-- none of four
pub all-false : (a b c d : Bool) → (a || b || c || d) ≡ false → (a ≡ false) × (b ≡ false) × (c ≡ false) × (d ≡ false)
all-false true b c d e = absurd (true≢false e)
all-false false true c d e = absurd (true≢false e)
all-false false false true d e = absurd (true≢false e)
all-false false false false d e = (refl, refl, refl, e)
