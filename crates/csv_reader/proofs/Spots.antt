-- The tests of a reader, as facts. Assumes nothing.
use Prim.Native.Nat.{ℕ, ◌+◌, ◌*◌, ◌^◌, ◌≤◌, ◌<◌}
use mathlib.Core.Path.{◌≡◌, refl, sym}
use mathlib.Core.Bool.{Bool, true, false, ◌&&◌, and-eq-true_iff}
use native.Mathlib.Omega.{arith}
use mathlib.Core.List.{List}
use lib.Dec.{leb, ltb, eqb}
use lib.ListN.{length, get_or}
use borrow.Author.Tests.{eqb-true, eqb-false, eq-eqb, ne_eqb, leb-true, ltb-true, le-leb, lt-leb, lt-ltb, le-ltb}
use Rattle.std.specs.Prelude.{cond, Option, Some, None}
use Rattle.std.specs.Option.{option_eq}
use Rattle.std.specs.Slice.{IsItemAt}
use Rattle.std.proofs.Common.{Bor}
use Rattle.csv_reader.specs.Reader.{largest, is_digit, digit_of, more_digits}

pub and-false : (a : Bool) → (a && false) ≡ false
and-false true = refl
and-false false = refl

pub digit-size : (byte : ℕ) → is_digit byte ≡ true → (48 ≤ byte) × (byte ≤ 57)
unfolding is_digit
digit-size byte e = let h = (and-eq-true_iff (leb 48 byte) (leb byte 57)).0 e in (leb-true 48 byte h.0, leb-true byte 57 h.1)

pub largest-most : (negative : Bool) → largest negative ≤ 2 ^ 47
unfolding largest
largest-most true = omega arith
largest-most false = omega arith

-- ---- one digit more

pub no_digit : (negative : Bool) (size byte : ℕ) → is_digit byte ≡ false → more_digits negative size byte ≡ false
unfolding more_digits
no_digit negative size byte e = rw e

pub leading-zero : (negative : Bool) (size byte : ℕ) → size ≡ 0 → more_digits negative size byte ≡ false
unfolding more_digits
leading-zero negative size byte e = rw (le-ltb 0 size (omega arith), and-false)

pub too_large : (negative : Bool) (size byte : ℕ) → largest negative < 10 * size + digit_of byte → more_digits negative size byte ≡ false
unfolding more_digits
too_large negative size byte h = rw (lt-leb (10 * size + digit_of byte) (largest negative) h, and-false)

pub one-more : (negative : Bool) (size byte : ℕ) → is_digit byte ≡ true → 0 < size → 10 * size + digit_of byte ≤ largest negative → more_digits negative size byte ≡ true
unfolding more_digits
one-more negative size byte e h k = rw (e, lt-ltb 0 size h, le-leb (10 * size + digit_of byte) (largest negative) k)

-- and back
pub record OneMore (negative : Bool) (size byte : ℕ) : Type 0 where
  pub digit : is_digit byte ≡ true
  pub some : 0 < size
  pub fits : 10 * size + digit_of byte ≤ largest negative

pub more-is : (negative : Bool) (size byte : ℕ) → more_digits negative size byte ≡ true → OneMore negative size byte
unfolding more_digits
more-is negative size byte e =
    let h = (and-eq-true_iff (is_digit byte && ltb 0 size) (leb (10 * size + digit_of byte) (largest negative))).0 e in
    let k = (and-eq-true_iff (is_digit byte) (ltb 0 size)).0 h.0 in
    record { digit = k.0; some = ltb-true 0 size k.1; fits = leb-true (10 * size + digit_of byte) (largest negative) h.1 }

-- what may be there tells whether it was taken
pub taken : {A : Type 0} (t : Bool) {x y : A} → Some y ≡ cond t (Some x) None → (t ≡ true) × (y ≡ x)
taken true e = (refl, cc)
taken false e = cc

pub not_taken : {A : Type 0} (t : Bool) (x : A) → None ≡ cond t (Some x) None → t ≡ false
not_taken true x e = cc
not_taken false x e = refl

either-way : (a b : ℕ) → eqb a b ≡ eqb b a
either-way a b = go (eqb a b) refl
  where
    go : (t : Bool) → eqb a b ≡ t → t ≡ eqb b a
    go true e = sym (eq-eqb b a (sym (eqb-true a b e)))
    go false e = sym (ne_eqb b a (λ f. eqb-false a b e (sym f)))

-- a byte is the next one of a list
pub is_next : (xs : List ℕ) (i : ℕ) (r : Option (Bor ℕ)) (byte : Bor ℕ) → IsItemAt xs i r
    → option_eq (λ x y. eqb x.now y.now) r (Some byte) ≡ (ltb i (length xs) && eqb byte.now (get_or xs i 0))
is_next xs i None byte h = rw (← h.0) refl
is_next xs i (Some x) byte h = rw (← h.0, ← h.4 (omega arith) 0) (either-way x.now byte.now)
