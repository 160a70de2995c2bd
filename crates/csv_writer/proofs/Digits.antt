-- The digits of a number. Assumes nothing.
use Prim.Native.Nat.{ℕ, zero, suc, ◌+◌, ◌*◌, ◌/◌, ◌%◌, ◌^◌, ◌≤◌, ◌<◌}
use mathlib.Core.Path.{◌≡◌, refl, sym, ap, ◌∙◌}
use mathlib.Core.Bool.{Bool, true, false}
use mathlib.Core.List.{List, [], ◌∷◌, ◌++◌, append_assoc}
use native.Mathlib.Nat.{add-zero, zero-add, pow-le-pow_right}
use native.Mathlib.Omega.{arith}
use lib.Dec.{ltb}
use lib.IntN.{ℤ}
use lib.ListN.{length, get_or, length-append}
use lib.Signed.{mag, nat_abs-le}
use borrow.Author.Tests.{ltb-true, ltb-false, lt-ltb, le-ltb}
use Rattle.csv_text.specs.Text.{digits_of, digits, decimal}
use Rattle.csv_writer.specs.promises.Cells.{pair_of, pairs_from, digit_pairs}
use Rattle.value.specs.Pattern.{negative, magnitude_of}

one : (k n : ℕ) → n < 10 → digits_of k n ≡ (48 + n) ∷ []
unfolding digits_of
one zero n h = refl
one (suc k) n h = rw (lt-ltb n 10 h, digits_of)

more : (k n : ℕ) → 10 ≤ n → digits_of (suc k) n ≡ digits_of k (n / 10) ++ (48 + n % 10) ∷ []
unfolding digits_of
more k n h = rw (le-ltb n 10 h, digits_of)

-- more digits allowed than needed change nothing
enough : (k m n : ℕ) (t : Bool) → ltb n 10 ≡ t → n ≤ k → n ≤ m → digits_of k n ≡ digits_of m n
enough zero m n true e h g = one zero n (ltb-true n 10 e) ∙ sym (one m n (ltb-true n 10 e))
enough zero m n false e h g = absurd (omega (arith, ltb-false n 10 e))
enough (suc k) m n true e h g = one (suc k) n (ltb-true n 10 e) ∙ sym (one m n (ltb-true n 10 e))
enough (suc k) zero n false e h g = absurd (omega (arith, ltb-false n 10 e))
enough (suc k) (suc m) n false e h g =
    let l : 10 ≤ n = ltb-false n 10 e in
    more k n l ∙ ap (λ (x : List ℕ). x ++ (48 + n % 10) ∷ []) (enough k m (n / 10) (ltb (n / 10) 10) refl (omega arith) (omega arith)) ∙ sym (more m n l)

pub digits-one : (n : ℕ) → n < 10 → digits n ≡ (48 + n) ∷ []
unfolding digits
digits-one n h = one n n h

pub digits_more : (n : ℕ) → 10 ≤ n → digits n ≡ digits (n / 10) ++ (48 + n % 10) ∷ []
unfolding digits
digits_more zero h = absurd (omega arith)
digits_more (suc n) h =
    more n (suc n) h
    ∙ ap (λ (x : List ℕ). x ++ (48 + suc n % 10) ∷ []) (enough n (suc n / 10) (suc n / 10) (ltb (suc n / 10) 10) refl (omega arith) (omega arith))

pub more-length : (n : ℕ) → 10 ≤ n → length (digits n) ≡ suc (length (digits (n / 10)))
more-length n h = ap length (digits_more n h) ∙ simp length-append (omega arith)

-- a case for a number of one digit, and one for more
pub by_size : {P : Type 0} (n : ℕ) → (n < 10 → P) → (10 ≤ n → P) → P
by_size {P} n f g = go (ltb n 10) refl
  where
    go : (t : Bool) → ltb n 10 ≡ t → P
    go true e = f (ltb-true n 10 e)
    go false e = g (ltb-false n 10 e)

pub some-digits : (n : ℕ) → 0 < length (digits n)
some-digits n = by_size n (λ h. rw (digits-one n h) (omega arith)) (λ h. omega (arith, more-length n h))

-- ---- two digits at a time

pub digits-two : (n : ℕ) → 10 ≤ n → n < 100 → digits n ≡ pair_of n
digits-two n h k = digits_more n h ∙ rw (digits-one (n / 10) (omega arith))

pub digits-pair : (n : ℕ) → 100 ≤ n → digits n ≡ digits (n / 100) ++ pair_of (n % 100)
digits-pair n h =
    let rest : n / 10 / 10 ≡ n / 100 = omega arith in
    let tens : n / 10 % 10 ≡ n % 100 / 10 = omega arith in
    let units : n % 10 ≡ n % 100 % 10 = omega arith in
    digits_more n (omega arith) ∙ rw (digits_more (n / 10) (omega arith), rest, tens, units) (append_assoc (digits (n / 100)) ((48 + n % 100 / 10) ∷ []) _)

-- in the list of all pairs
from_at : (count n i : ℕ) → i < count → (get_or (pairs_from count n) (2 * i) 0 ≡ 48 + (n + i) / 10) × (get_or (pairs_from count n) (2 * i + 1) 0 ≡ 48 + (n + i) % 10)
from_at zero n i h = absurd (omega arith)
from_at (suc count) n zero h = rw add-zero (refl, refl)
from_at (suc count) n (suc i) h =
    let twice : 2 * suc i ≡ suc (suc (2 * i)) = omega arith in
    let twice-1 : suc (suc (2 * i)) + 1 ≡ suc (suc (2 * i + 1)) = omega arith in
    let next : n + suc i ≡ suc n + i = omega arith in
    rw (twice, twice-1, next) (from_at count (suc n) i (omega arith))

pub pair-at : (i : ℕ) → i < 100 → (get_or digit_pairs (2 * i) 0 ≡ 48 + i / 10) × (get_or digit_pairs (2 * i + 1) 0 ≡ 48 + i % 10)
unfolding digit_pairs
pair-at i h = rw zero-add at (from_at 100 0 i h)

-- a number below 10^k has at most k digits, and one from there on has more
pub few : (k n : ℕ) → n < 10 ^ suc k → length (digits n) ≤ suc k
few zero n h = rw (digits-one n h) (omega arith)
few (suc k) n h =
    by_size n (λ l. rw (digits-one n l) (omega arith)) (λ l. omega (arith, more-length n l, few k (n / 10) (omega arith)))

pub many : (k n : ℕ) → 10 ^ k ≤ n → k < length (digits n)
many zero n h = some-digits n
many (suc k) n h =
    let l : 10 ≤ n = omega (arith, pow-le-pow_right {n = 10} (omega arith) {i = 1} {j = suc k} (omega arith)) in
    omega (arith, more-length n l, many k (n / 10) (omega arith))

pub low-power : (k : ℕ) → k ≤ 16 → 10 ^ k ≤ 10 ^ 16
low-power k h = pow-le-pow_right {n = 10} (omega arith) {i = k} {j = 16} h

-- ---- a value's sign and size

pub minus-first : (v : ℤ) → negative v ≡ true → decimal v ≡ 45 ∷ digits (magnitude_of v)
unfolding decimal
minus-first v e = rw e

pub no_minus : (v : ℤ) → negative v ≡ false → decimal v ≡ digits (magnitude_of v)
unfolding decimal
no_minus v e = rw e

pub size-fits : (v : ℤ) → mag v < 2 ^ 63 → magnitude_of v ≤ 2 ^ 63
unfolding magnitude_of
size-fits v h = nat_abs-le v h

pub digits-fit : (n : ℕ) → n ≤ 2 ^ 63 → length (digits n) ≤ 19
digits-fit n h = few 18 n (omega arith)
