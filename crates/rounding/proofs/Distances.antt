-- What is left of v over the multiple of n below it; by it, how far the whole numbers are from v / n, and which one is taken.
-- Assumes nothing.
use mathlib.Core.Path.{◌≡◌, refl, sym, ap, ◌∙◌}
use mathlib.Core.Bool.{Bool, true, false, cond, ◌&&◌, ◌||◌}
use Prim.Native.Nat.{ℕ, zero, suc, ◌+◌, ◌-◌, ◌*◌, ◌/◌, ◌%◌, ◌≤◌, ◌<◌}
use native.Mathlib.Nat.{add_assoc, add-zero, mul_comm, div-add-mod, div-lt_iff_lt-mul, mul-suc, mul-zero, le_of_lt, lt_of_mul-lt-mul_left}
use native.Mathlib.Omega.{arith}
use lib.Dec.{eqb, ltb, leb→le, le→leb}
use lib.IntN.{ℤ, pos, negsuc, neg_ℤ, pred_ℤ, suc_ℤ, ◌+ℤ◌, ◌-ℤ◌, ◌*ℤ◌, neg_ℤ-neg_ℤ, neg_ℤ-suc_ℤ, neg_ℤ-+ℤ, +ℤ_idr, +ℤ_one, +ℤ_assoc, +ℤ_comm, +ℤ-suc_ℤ, +ℤ-pred_ℤ, *ℤ_comm, suc_ℤ-*ℤ}
use lib.Signed.{mag, rem_z, shr_z, ◌≤ℤ◌}
use borrow.Author.Tests.{ltb-true, ltb-false, eqb-true, eqb-false, lt-ltb, le-ltb, eq-eqb, ne_eqb}
use Rattle.value.specs.Division.{floored}
use Rattle.value.specs.Equality.{eq_z}
use Rattle.value.proofs.Integers.{nat_abs-neg, mag_down, times-pred}
use Rattle.value.proofs.Folded.{taken, remainder, remainder-below, left_is}
use Rattle.rounding.specs.Rounding.{distance, even, nearer, rounded}

-- ---- whole numbers

short : (a b : ℕ) → a ≤ b → pos a -ℤ pos b ≡ neg_ℤ (pos (b - a))
short a b h =
    +ℤ_comm (pos a) (neg_ℤ (pos b)) ∙ ap (λ (z : ℤ). neg_ℤ (pos b) +ℤ z) (sym (neg_ℤ-neg_ℤ (pos a)))
    ∙ sym (neg_ℤ-+ℤ (pos b) (neg_ℤ (pos a))) ∙ ap neg_ℤ (taken b a (b - a) (omega arith))

-- one multiple less is taken off, or one more
one_down : (v k q : ℤ) → v -ℤ k *ℤ pred_ℤ q ≡ (v -ℤ k *ℤ q) +ℤ k
one_down v k q =
    ap (λ (z : ℤ). v -ℤ z) (times-pred k q)
    ∙ ap (λ (z : ℤ). v +ℤ z) (neg_ℤ-+ℤ (k *ℤ q) (neg_ℤ k) ∙ ap (λ (z : ℤ). neg_ℤ (k *ℤ q) +ℤ z) (neg_ℤ-neg_ℤ k))
    ∙ sym (+ℤ_assoc v (neg_ℤ (k *ℤ q)) k)

one_up : (v k q : ℤ) → v -ℤ k *ℤ suc_ℤ q ≡ (v -ℤ k *ℤ q) -ℤ k
one_up v k q =
    ap (λ (z : ℤ). v -ℤ z) (*ℤ_comm k (suc_ℤ q) ∙ suc_ℤ-*ℤ q k ∙ ap (λ (z : ℤ). z +ℤ k) (*ℤ_comm q k))
    ∙ ap (λ (z : ℤ). v +ℤ z) (neg_ℤ-+ℤ (k *ℤ q) k)
    ∙ sym (+ℤ_assoc v (neg_ℤ (k *ℤ q)) (neg_ℤ k))

pub size_below : (v : ℤ) (m : ℕ) → mag v ≤ m → v ≤ℤ pos m
size_below (pos a) m h = record { le = le→leb a m h }
size_below (negsuc a) m h = record { le = tt }

-- a number is even where the remainder by two is 0
pub even_is : (q : ℤ) → eq_z (rem_z q (pos 2)) (pos 0) ≡ even q
unfolding even eq_z
even_is (pos m) = refl
even_is (negsuc m) = go (suc m % 2)
  where
    go : (r : ℕ) → eq_z (neg_ℤ (pos r)) (pos 0) ≡ eqb r 0
    go zero = refl
    go (suc r) = sym (ne_eqb (suc r) 0 (λ h. omega arith))

-- ---- how far the numbers below and above v / n are from it

module _ (v : ℤ) {n : ℕ} (p : 0 < n) where
  lower : (d : ℕ) → v -ℤ pos n *ℤ (shr_z v n -ℤ pos d) ≡ pos (remainder v n + n * d)
  lower zero = rw (+ℤ_idr (shr_z v n), left_is v p, mul-zero n) (ap pos (omega arith))
  lower (suc d) =
      ap (λ (z : ℤ). v -ℤ pos n *ℤ z) (ap (λ (z : ℤ). shr_z v n +ℤ z) (neg_ℤ-suc_ℤ (pos d)) ∙ +ℤ-pred_ℤ (shr_z v n) (neg_ℤ (pos d)))
      ∙ one_down v (pos n) (shr_z v n -ℤ pos d) ∙ ap (λ (z : ℤ). z +ℤ pos n) (lower d)
      ∙ ap pos (omega (arith, mul-suc n d))

  upper : (d : ℕ) → v -ℤ pos n *ℤ (shr_z v n +ℤ pos (suc d)) ≡ neg_ℤ (pos (n - remainder v n + n * d))
  upper zero =
      rw (+ℤ_one (shr_z v n), one_up v (pos n) (shr_z v n), left_is v p, short (remainder v n) n (le_of_lt (remainder-below v p)), mul-zero n)
      (ap (λ (m : ℕ). neg_ℤ (pos m)) (sym (add-zero (n - remainder v n))))
  upper (suc d) =
      rw (+ℤ-suc_ℤ (shr_z v n) (pos (suc d)), one_up v (pos n) (shr_z v n +ℤ pos (suc d)), upper d, ← neg_ℤ-+ℤ (pos (n - remainder v n + n * d)) (pos n), mul-suc n d)
      (ap (λ (m : ℕ). neg_ℤ (pos m)) (add_assoc (n - remainder v n) (n * d) n))

  pub distance-down : (d : ℕ) → distance v n (shr_z v n -ℤ pos d) ≡ remainder v n + n * d
  unfolding distance
  distance-down d = rw (lower d)

  pub distance-up : (d : ℕ) → distance v n (shr_z v n +ℤ pos (suc d)) ≡ n - remainder v n + n * d
  unfolding distance
  distance-up d = rw (upper d) (nat_abs-neg (n - remainder v n + n * d))

  pub distance-floor : distance v n (shr_z v n) ≡ remainder v n
  distance-floor = ap (distance v n) (sym (+ℤ_idr (shr_z v n))) ∙ distance-down 0 ∙ omega (arith, mul-zero n)

  pub distance_next : distance v n (shr_z v n +ℤ pos 1) ≡ n - remainder v n
  distance_next = distance-up 0 ∙ omega (arith, mul-zero n)

-- ---- the number taken

-- twice the remainder decides: it is below n, or equal to n and the number rounded down is even
abbrev pub stays : ℤ → ℕ → Bool
stays v n = ltb (2 * remainder v n) n || (eqb (2 * remainder v n) n && even (shr_z v n))

not_left : (a b : Bool) → (a || b) ≡ false → a ≡ false
not_left true b e = e
not_left false b e = refl

-- where something is left, the next number is not past those that v is not past n times
next-size : (v : ℤ) {n : ℕ} → 0 < n → 0 < remainder v n → (m : ℕ) → v ≤ℤ pos (n * m) → mag v < n * suc m
    → mag (shr_z v n +ℤ pos 1) < suc m
next-size (pos a) {n} p h m above below =
    let l : n * (a / n) < n * m = omega (arith, leb→le a (n * m) above.le, div-add-mod a n) in
    omega (arith, lt_of_mul-lt-mul_left n l)
next-size (negsuc a) {n} p h m above below = rw (+ℤ_one (negsuc (a / n))) (go (a / n) ((div-lt_iff_lt-mul p).1 (omega (arith, mul_comm n (suc m)))))
  where
    go : (q : ℕ) → q < suc m → mag (suc_ℤ (negsuc q)) < suc m
    go zero h = omega arith
    go (suc q) h = omega arith

module _ (v : ℤ) {n : ℕ} (p : 0 < n) where
  pub nearer-is : nearer v n (shr_z v n) (shr_z v n +ℤ pos 1)
      ≡ (ltb (remainder v n) (n - remainder v n) || (eqb (remainder v n) (n - remainder v n) && even (shr_z v n)))
  unfolding nearer
  nearer-is = rw (distance-floor v p, distance_next v p)

  pub rounded-is : rounded v n ≡ cond (stays v n) (shr_z v n) (shr_z v n +ℤ pos 1)
  unfolding rounded floored
  rounded-is =
      rw (nearer-is, below (ltb (2 * remainder v n) n) refl, halfway (eqb (2 * remainder v n) n) refl)
    where
      below : (t : Bool) → ltb (2 * remainder v n) n ≡ t → ltb (remainder v n) (n - remainder v n) ≡ t
      below true e = lt-ltb (remainder v n) (n - remainder v n) (omega (arith, ltb-true (2 * remainder v n) n e))
      below false e = le-ltb (remainder v n) (n - remainder v n) (omega (arith, ltb-false (2 * remainder v n) n e))

      halfway : (t : Bool) → eqb (2 * remainder v n) n ≡ t → eqb (remainder v n) (n - remainder v n) ≡ t
      halfway true e = eq-eqb (remainder v n) (n - remainder v n) (omega (arith, eqb-true (2 * remainder v n) n e))
      halfway false e =
          ne_eqb (remainder v n) (n - remainder v n)
          (λ h. eqb-false (2 * remainder v n) n e (omega (arith, remainder-below v p)))

  -- it is not past m, nor below −m − 1, where v is not past them n times; the next is taken only where something is left
  pub rounded-size : (m : ℕ) → v ≤ℤ pos (n * m) → mag v < n * suc m → mag (rounded v n) < suc m
  rounded-size m above below = rw rounded-is (go (stays v n) refl)
    where
      go : (t : Bool) → stays v n ≡ t → mag (cond t (shr_z v n) (shr_z v n +ℤ pos 1)) < suc m
      go true e = rw (mag_down v n) ((div-lt_iff_lt-mul p).1 (omega (arith, mul_comm n (suc m))))
      go false e = next-size v p (omega (arith, ltb-false (2 * remainder v n) n (not_left (ltb (2 * remainder v n) n) _ e))) m above below
