-- Operations on binary digits are associative where the operation on one digit is. Assumes nothing.
use Prim.Native.Nat.{ℕ, zero, ◌+◌, ◌*◌, ◌/◌, ◌%◌, ◌<◌, min, max}
use mathlib.Core.Path.{◌≡◌, refl, ap, ◌∙◌}
use native.Mathlib.Nat.{mod-lt}
use native.Mathlib.Omega.{arith}
use lib.Arith.{bin_ind, digits_div, digits_mod}
use lib.Bits.{bit_and, bit_or, and_step, or_step}
use lib.Dec.{lit<}

module _ (op f : ℕ → ℕ → ℕ) (step : (a b : ℕ) → op a b ≡ op (a / 2) (b / 2) * 2 + f (a % 2) (b % 2))
    (digit : (x y : ℕ) → x < 2 → y < 2 → f x y < 2) where
  digit_lt : (a b : ℕ) → f (a % 2) (b % 2) < 2
  digit_lt a b = digit (a % 2) (b % 2) (mod-lt a (lit< tt)) (mod-lt b (lit< tt))

  half : (a b : ℕ) → op a b / 2 ≡ op (a / 2) (b / 2)
  half a b = ap (λ (x : ℕ). x / 2) (step a b) ∙ digits_div (op (a / 2) (b / 2)) (digit_lt a b)

  odd : (a b : ℕ) → op a b % 2 ≡ f (a % 2) (b % 2)
  odd a b = ap (λ (x : ℕ). x % 2) (step a b) ∙ digits_mod (op (a / 2) (b / 2)) (digit_lt a b)

  module _ (assoc : (x y z : ℕ) → f (f x y) z ≡ f x (f y z)) (base : (b c : ℕ) → op (op zero b) c ≡ op zero (op b c)) where
    op_assoc : (a b c : ℕ) → op (op a b) c ≡ op a (op b c)
    op_assoc =
        bin_ind (λ (n : ℕ). (b c : ℕ) → op (op n b) c ≡ op n (op b c)) base (λ n ih b c.
        let left : op (op n b) c ≡ op (op (n / 2) (b / 2)) (c / 2) * 2 + f (f (n % 2) (b % 2)) (c % 2) = rw (← half n b, ← odd n b) (step (op n b) c) in
        let right : op n (op b c) ≡ op (n / 2) (op (b / 2) (c / 2)) * 2 + f (n % 2) (f (b % 2) (c % 2)) = rw (← half b c, ← odd b c) (step n (op b c)) in
        cc (left, right, ih (b / 2) (c / 2), assoc (n % 2) (b % 2) (c % 2)))

pub and_assoc : (a b c : ℕ) → bit_and (bit_and a b) c ≡ bit_and a (bit_and b c)
and_assoc = op_assoc bit_and min and_step (λ x y h k. omega arith) (λ x y z. omega arith) (λ b c. refl)

pub or_assoc : (a b c : ℕ) → bit_or (bit_or a b) c ≡ bit_or a (bit_or b c)
or_assoc = op_assoc bit_or max or_step (λ x y h k. omega arith) (λ x y z. omega arith) (λ b c. refl)
