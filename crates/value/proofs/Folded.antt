-- Division of a folded number: the quotient rounded down, and what is left.
-- Assumes nothing.
use mathlib.Core.Path.{◌≡◌, refl, sym, ap, ◌∙◌}
use mathlib.Core.Bool.{true, cond, false≢true}
use Prim.Native.Nat.{ℕ, suc, ◌+◌, ◌-◌, ◌*◌, ◌/◌, ◌%◌, ◌^◌, ◌<◌}
use native.Mathlib.Nat.{div-add-mod, mod-lt, mul-suc}
use native.Mathlib.Omega.{arith}
use lib.IntN.{ℤ, pos, negsuc, nat_abs, neg_ℤ, ◌-ℤ◌, ◌+ℤ◌, ◌*ℤ◌, neg_ℤ-neg_ℤ, neg_ℤ-+ℤ, +ℤ_comm, +ℤ_assoc, +ℤ_invr, +ℤ_idl, +ℤ-neg_ℤ_cancel}
use lib.Signed.{mag, le_z, lt_z, rem_z, shr_z}
use mir.Syntax.{w64}
use mir.Val.{SFits}
use mir.Facts.{to_z-of_z}
use borrow.Author.Rules.{sfits_of}
use borrow.Author.Tests.{leb-true, le-ltb}
use Rattle.value.specs.Division.{folded}
use Rattle.value.proofs.Integers.{minus-one-minus, minus-one-negative}
use Rattle.value.proofs.Machine.{back, answered}

-- −1 − v has the size of v
pub mag-turned : (v : ℤ) → mag (negsuc 0 -ℤ v) ≡ mag v
mag-turned (pos n) = rw (minus-one-minus n)
mag-turned (negsuc n) = rw (minus-one-negative (negsuc n) refl)

-- and v, or −1 − v where v is below zero, is the size of v
pub folded-is : (v : ℤ) → folded v ≡ pos (mag v)
unfolding folded
folded-is (pos n) = rw (le-ltb n 0 (omega arith))
folded-is (negsuc n) = minus-one-negative (negsuc n) refl

-- the quotient, turned where v is below zero
pub quotient_is : (v : ℤ) (n : ℕ) → cond (lt_z v (pos 0)) (negsuc 0 -ℤ pos (mag v / n)) (pos (mag v / n)) ≡ shr_z v n
quotient_is (pos a) n = rw (le-ltb a 0 (omega arith))
quotient_is (negsuc a) n = minus-one-minus (a / n)

pub taken : (a b c : ℕ) → c + b ≡ a → pos a -ℤ pos b ≡ pos c
taken a b c e = ap (λ (m : ℕ). pos m -ℤ pos b) (sym e) ∙ +ℤ-neg_ℤ_cancel (pos c) (pos b)

-- what is left of v over the multiple of n below it
abbrev pub remainder : ℤ → ℕ → ℕ
remainder (pos a) n = a % n
remainder (negsuc a) n = n - suc (a % n)

pub remainder-below : (v : ℤ) {n : ℕ} → 0 < n → remainder v n < n
remainder-below (pos a) p = mod-lt a p
remainder-below (negsuc a) p = omega arith

pub left_is : (v : ℤ) {n : ℕ} → 0 < n → v -ℤ pos n *ℤ shr_z v n ≡ pos (remainder v n)
left_is (pos a) {n} p = taken a (n * (a / n)) (a % n) (omega (arith, div-add-mod a n))
left_is (negsuc a) {n} p =
    ap (λ (z : ℤ). negsuc a +ℤ z) (neg_ℤ-neg_ℤ (pos (n * suc (a / n)))) ∙ +ℤ_comm (negsuc a) (pos (n * suc (a / n)))
    ∙ taken (n * suc (a / n)) (suc a) (n - suc (a % n)) (omega (arith, div-add-mod a n, mod-lt a p, mul-suc n (a / n)))

-- it counts down from n − 1 where v is below zero
pub remainder_is : (v : ℤ) {n : ℕ} → 0 < n
    → cond (lt_z v (pos 0)) ((pos n -ℤ pos 1) -ℤ pos (mag v % n)) (pos (mag v % n)) ≡ pos (remainder v n)
remainder_is (pos a) p = rw (le-ltb a 0 (omega arith))
remainder_is (negsuc a) {n} p = rw (taken n 1 (n - 1) (omega arith)) (taken (n - 1) (a % n) (n - suc (a % n)) (omega (arith, mod-lt a p)))

-- ---- the same in the machine's terms: of what `folded` answered, and of a divisor k that is at least 1

module _ {v f : ℤ} (fits : SFits w64 v) (small : mag f < 2 ^ 63) (e : f ≡ folded (back v)) where
  pub dividend-is : back f ≡ pos (mag v)
  dividend-is = answered small (e ∙ ap folded (to_z-of_z fits) ∙ folded-is v)

  pub dividend-fits : SFits w64 (pos (mag v))
  dividend-fits = sfits_of fits.sfits

pub above-is : (k v : ℤ) → le_z (pos 1) k ≡ true
    → cond (lt_z v (pos 0)) ((k -ℤ pos 1) -ℤ rem_z (pos (mag v)) k) (rem_z (pos (mag v)) k) ≡ v -ℤ k *ℤ shr_z v (nat_abs k)
above-is (pos n) v e = let p = leb-true 1 n e in remainder_is v p ∙ sym (left_is v p)
above-is (negsuc n) v e = absurd (false≢true e)

pub one_less_fits : (k : ℤ) → le_z (pos 1) k ≡ true → SFits w64 k → SFits w64 (k -ℤ pos 1)
one_less_fits (pos n) e f = rw (taken n 1 (n - 1) (omega (arith, leb-true 1 n e))) (sfits_of (omega (arith, f.sfits)))
one_less_fits (negsuc n) e f = absurd (false≢true e)

pub counted-fits : (k v : ℤ) → le_z (pos 1) k ≡ true → SFits w64 k → SFits w64 ((k -ℤ pos 1) -ℤ rem_z (pos (mag v)) k)
counted-fits (pos n) v e f =
    let p = leb-true 1 n e in
    rw (taken n 1 (n - 1) (omega arith), taken (n - 1) (mag v % n) (n - suc (mag v % n)) (omega (arith, mod-lt (mag v) p)))
    (sfits_of (omega (arith, f.sfits)))
counted-fits (negsuc n) v e f = absurd (false≢true e)

-- how far v is above the multiple is less than k
pub above-small : (k v : ℤ) → le_z (pos 1) k ≡ true → mag (v -ℤ k *ℤ shr_z v (nat_abs k)) < mag k
above-small (pos n) v e = let p = leb-true 1 n e in rw (left_is v p) (remainder-below v p)
above-small (negsuc n) v e = absurd (false≢true e)

pub minus_minus : (v x : ℤ) → v -ℤ (v -ℤ x) ≡ x
minus_minus v x = rw (neg_ℤ-+ℤ v (neg_ℤ x), neg_ℤ-neg_ℤ x, ← +ℤ_assoc v (neg_ℤ v) x, +ℤ_invr v) (+ℤ_idl x)
