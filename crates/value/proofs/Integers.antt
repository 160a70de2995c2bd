-- Facts on whole numbers: their sizes, and division rounded toward zero and down.
-- Assumes nothing.
use mathlib.Core.Path.{◌≡◌, refl, sym, ap, ◌∙◌}
use mathlib.Core.Bool.{Bool, true, false, not, cond, true≢false}
use Prim.Native.Nat.{ℕ, zero, suc, ◌+◌, ◌-◌, ◌*◌, ◌/◌, ◌%◌, ◌≤◌, ◌<◌, zero-le}
use native.Mathlib.Nat.{div-add-mod, mod-lt, le_refl, le_trans, le_of_lt, le-suc, div-le_self, mul-zero, zero-add, mul-div-le, lt-mul-div-succ, mod-le}
use native.Mathlib.Omega.{arith}
use lib.Dec.{T, leb, ltb, leb→le, le→leb, lt→ltb}
use lib.IntN.{ℤ, pos, negsuc, nat_abs, neg_ℤ, pred_ℤ, suc_ℤ, ◌+ℤ◌, ◌-ℤ◌, ◌*ℤ◌, neg_ℤ-+ℤ, *ℤ_comm, pred_ℤ-*ℤ}
use lib.Signed.{mag, le_z, lt_z, quot_z, rem_z, shr_z, ◌≤ℤ◌, ◌<ℤ◌}
use borrow.Author.Tests.{ltb-true, ltb-false, leb-false, le-ltb, le-leb, lt-leb}

-- a test that holds, as a type
pub so : {t : Bool} → t ≡ true → T t
so e = rw e tt

-- ---- sizes

pub mag-neg : (z : ℤ) → mag (neg_ℤ z) ≤ suc (mag z)
mag-neg (pos zero) = zero-le
mag-neg (pos (suc n)) = omega arith
mag-neg (negsuc n) = le_refl (suc n)

pub nat_abs-neg : (m : ℕ) → nat_abs (neg_ℤ (pos m)) ≡ m
nat_abs-neg zero = refl
nat_abs-neg (suc m) = refl

pub mag-nat_abs : (z : ℤ) → mag z ≤ nat_abs z
mag-nat_abs (pos n) = le_refl n
mag-nat_abs (negsuc n) = le-suc n

either : (c : Bool) (x y : ℤ) {n : ℕ} → mag x < n → mag y < n → mag (cond c x y) < n
either true x y h k = h
either false x y h k = k

pub mag-plus : (a b : ℤ) {p q : ℕ} → mag a < p → mag b < q → mag (a +ℤ b) < p + q
mag-plus (pos a) (pos b) h k = omega arith
mag-plus (pos a) (negsuc b) h k =
    either (ltb a (suc b)) (negsuc (suc b - suc a)) (pos (a - suc b)) (omega arith) (omega arith)
mag-plus (negsuc a) (pos b) h k =
    either (ltb b (suc a)) (negsuc (suc a - suc b)) (pos (b - suc a)) (omega arith) (omega arith)
mag-plus (negsuc a) (negsuc b) h k = omega arith

pub mag-minus : (a b : ℤ) {p q : ℕ} → mag a < p → mag b < q → mag (a -ℤ b) < p + suc q
mag-minus a b h k = mag-plus a (neg_ℤ b) h (omega (arith, mag-neg b))

-- a quotient toward zero is no larger than the number
mag-negated : (m : ℕ) {n : ℕ} → m ≤ suc n → mag (neg_ℤ (pos m)) ≤ n
mag-negated zero h = zero-le
mag-negated (suc m) h = omega arith

pub mag-quot : (z : ℤ) (n : ℕ) → mag (quot_z z (pos n)) ≤ mag z
mag-quot (pos a) n = div-le_self a n
mag-quot (negsuc a) n = mag-negated (suc a / n) (div-le_self (suc a) n)

pub mag_down : (z : ℤ) (n : ℕ) → mag (shr_z z n) ≡ mag z / n
mag_down (pos a) n = refl
mag_down (negsuc a) n = refl

-- ---- numbers below zero

-- −1 − m is −(m + 1)
pub minus-one-minus : (m : ℕ) → negsuc 0 -ℤ pos m ≡ negsuc m
minus-one-minus zero = refl
minus-one-minus (suc m) = rw zero-add

-- and −1 − v is the size of a negative v
pub minus-one-negative : (v : ℤ) → lt_z v (pos 0) ≡ true → negsuc 0 -ℤ v ≡ pos (mag v)
minus-one-negative (pos n) e = absurd (omega (arith, ltb-true n 0 e))
minus-one-negative (negsuc n) e = rw (le-ltb (suc n) 1 (omega arith)) (ap pos (omega arith))

-- ---- division

pos-*-neg : (n m : ℕ) → pos n *ℤ neg_ℤ (pos m) ≡ neg_ℤ (pos (n * m))
pos-*-neg n zero = rw mul-zero
pos-*-neg n (suc m) = refl

-- a number is the divisor times the quotient toward zero, and the remainder
pub whole : (v : ℤ) (n : ℕ) → v ≡ pos n *ℤ quot_z v (pos n) +ℤ rem_z v (pos n)
whole (pos a) n = ap pos (sym (div-add-mod a n))
whole (negsuc a) n =
    ap (λ (m : ℕ). neg_ℤ (pos m)) (sym (div-add-mod (suc a) n)) ∙ neg_ℤ-+ℤ (pos (n * (suc a / n))) (pos (suc a % n))
    ∙ ap (λ (z : ℤ). z +ℤ neg_ℤ (pos (suc a % n))) (sym (pos-*-neg n (suc a / n)))

pub times-pred : (k q : ℤ) → k *ℤ pred_ℤ q ≡ k *ℤ q -ℤ k
times-pred k q = *ℤ_comm k (pred_ℤ q) ∙ pred_ℤ-*ℤ q k ∙ ap (λ (z : ℤ). z -ℤ k) (*ℤ_comm q k)

-- ---- the order

le_not_lt : (m n : ℕ) → leb m n ≡ not (ltb n m)
le_not_lt m n = go (ltb n m) refl
  where
    go : (t : Bool) → ltb n m ≡ t → leb m n ≡ not t
    go true e = lt-leb m n (ltb-true n m e)
    go false e = le-leb m n (ltb-false n m e)

pub le_z_not_lt_z : (a b : ℤ) → le_z a b ≡ not (lt_z b a)
le_z_not_lt_z (pos m) (pos n) = le_not_lt m n
le_z_not_lt_z (pos m) (negsuc n) = refl
le_z_not_lt_z (negsuc m) (pos n) = refl
le_z_not_lt_z (negsuc m) (negsuc n) = le_not_lt n m

pub le_z-other : (a b : ℤ) → le_z a b ≡ false → le_z b a ≡ true
le_z-other (pos m) (pos n) e = le-leb n m (le_of_lt (leb-false m n e))
le_z-other (pos m) (negsuc n) e = refl
le_z-other (negsuc m) (pos n) e = absurd (true≢false e)
le_z-other (negsuc m) (negsuc n) e = le-leb m n (le_of_lt (leb-false n m e))

neg-below : (x : ℕ) {a : ℕ} → suc a ≤ x → neg_ℤ (pos x) ≤ℤ negsuc a
neg-below zero h = absurd (omega arith)
neg-below (suc x) {a} h = record { le = le→leb a x (omega arith) }

neg-above : (x : ℕ) {a : ℕ} → x ≤ a → negsuc a <ℤ neg_ℤ (pos x)
neg-above zero h = record { lt = tt }
neg-above (suc x) {a} h = record { lt = lt→ltb x a (omega arith) }

-- the remainder is smaller than the divisor, and has the number's sign or is 0
pub rest-small : (v : ℤ) {n : ℕ} → 0 < n → nat_abs (rem_z v (pos n)) < n
rest-small (pos a) p = mod-lt a p
rest-small (negsuc a) {n} p = rw (nat_abs-neg (suc a % n)) (mod-lt (suc a) p)

pub rest_up : (v : ℤ) (n : ℕ) → pos 0 ≤ℤ v → pos 0 ≤ℤ rem_z v (pos n)
rest_up (pos a) n h = record { le = le→leb 0 (a % n) zero-le }
rest_up (negsuc a) n h = absurd h.le

pub rest-down : (v : ℤ) (n : ℕ) → v ≤ℤ pos 0 → rem_z v (pos n) ≤ℤ pos 0
rest-down (pos a) n h = record { le = le→leb (a % n) 0 (le_trans (mod-le a n) (leb→le a 0 h.le)) }
rest-down (negsuc a) n h = neg-down (suc a % n)
  where
    neg-down : (m : ℕ) → neg_ℤ (pos m) ≤ℤ pos 0
    neg-down zero = record { le = tt }
    neg-down (suc m) = record { le = tt }

-- the quotient rounded down is the largest whole number not above v / n
pub down-below : (v : ℤ) {n : ℕ} → 0 < n → (pos n *ℤ shr_z v n) ≤ℤ v
down-below (pos a) {n} p = record { le = le→leb (n * (a / n)) a (mul-div-le a n) }
down-below (negsuc a) {n} p = neg-below (n * suc (a / n)) (omega (arith, lt-mul-div-succ a p))

pub down-above : (v : ℤ) {n : ℕ} → 0 < n → v <ℤ (pos n *ℤ suc_ℤ (shr_z v n))
down-above (pos a) {n} p = record { lt = lt→ltb a (n * suc (a / n)) (omega (arith, lt-mul-div-succ a p)) }
down-above (negsuc a) {n} p = go (a / n) (mul-div-le a n)
  where
    go : (q : ℕ) → n * q ≤ a → negsuc a <ℤ (pos n *ℤ suc_ℤ (negsuc q))
    go zero h = record { lt = tt }
    go (suc q) h = neg-above (n * suc q) h
