-- A field that is merged: its laws, by the cases of which labels have the stage. Assumes nothing.
use Prim.Native.Nat.{ℕ, ◌≤◌, max}
use mathlib.Core.Path.{◌≡◌, refl, sym}
use mathlib.Core.Bool.{Bool, true, false, cond, ◌&&◌, ◌||◌}
use native.Mathlib.Omega.{arith}
use lib.Bits.{bit_and}
use lib.Dec.{leb}
use borrow.Author.Tests.{leb-true, le-leb}
use Rattle.label_composition.specs.Composition.{merged, digits_with}
use Rattle.label_words.specs.WellFormed.{digits_fit, minimum_fits}
use Rattle.label_words.specs.Word.{bit_at, field_at}
use Rattle.label_words.proofs.Packed.{bit-and}
use Rattle.label_laws.proofs.Parts.{bits_fit, split-and}

-- ---- the two labels change places, and a label meets itself or a clear one

pub merged-comm : (p q : Bool) {x y : ℕ} (l r : ℕ) → x ≡ y → merged p q x l r ≡ merged q p y r l
merged-comm true true l r e = e
merged-comm true false l r e = refl
merged-comm false true l r e = refl
merged-comm false false l r e = refl

pub merged-same : (p : Bool) (both x : ℕ) → (p ≡ true → both ≡ x) → (p ≡ false → x ≡ 0) → merged p p both x x ≡ x
merged-same true both x t f = t refl
merged-same false both x t f = sym (f refl)

pub merged-zero : (p : Bool) (both x : ℕ) → (p ≡ false → x ≡ 0) → merged p false both x 0 ≡ x
merged-zero true both x f = refl
merged-zero false both x f = sym (f refl)

-- ---- three labels

pub merged-assoc : (f : ℕ → ℕ → ℕ) → ((x y z : ℕ) → f (f x y) z ≡ f x (f y z)) → (p q r : Bool) (x y z : ℕ)
    → merged (p || q) r (f (merged p q (f x y) x y) z) (merged p q (f x y) x y) z
    ≡ merged p (q || r) (f x (merged q r (f y z) y z)) x (merged q r (f y z) y z)
merged-assoc f assoc true true true x y z = assoc x y z
merged-assoc f assoc true true false x y z = refl
merged-assoc f assoc true false true x y z = refl
merged-assoc f assoc true false false x y z = refl
merged-assoc f assoc false true true x y z = refl
merged-assoc f assoc false true false x y z = refl
merged-assoc f assoc false false true x y z = refl
merged-assoc f assoc false false false x y z = refl

-- the digits of three labels that all have stage T, by which of them allow cut
cut-assoc : (p q r : Bool) (x y z : ℕ) → cond (p && q && r) (max (cond (p && q) (max x y) 0) z) 0 ≡ cond (p && (q && r)) (max x (cond (q && r) (max y z) 0)) 0
cut-assoc true true true x y z = omega arith
cut-assoc true true false x y z = refl
cut-assoc true false r x y z = refl
cut-assoc false q r x y z = refl

pub digits-assoc : (p q r : Bool) (s t u x y z : ℕ)
    → merged (p || q) r (digits_with (bit_and (merged p q (bit_and s t) s t) u) (max (merged p q (digits_with (bit_and s t) (max x y)) x y) z))
    (merged p q (digits_with (bit_and s t) (max x y)) x y) z
    ≡ merged p (q || r) (digits_with (bit_and s (merged q r (bit_and t u) t u)) (max x (merged q r (digits_with (bit_and t u) (max y z)) y z))) x
    (merged q r (digits_with (bit_and t u) (max y z)) y z)
digits-assoc true true true s t u x y z = rw (bit-and (bit_and s t) u 2, bit-and s t 2, bit-and s (bit_and t u) 2, bit-and t u 2) (cut-assoc (bit_at s 2) (bit_at t 2) (bit_at u 2) x y z)
digits-assoc true true false s t u x y z = refl
digits-assoc true false true s t u x y z = refl
digits-assoc true false false s t u x y z = refl
digits-assoc false true true s t u x y z = refl
digits-assoc false true false s t u x y z = refl
digits-assoc false false true s t u x y z = refl
digits-assoc false false false s t u x y z = refl

-- ---- what fits

pub bits-fit : (p q : Bool) (both x y : ℕ) → bits_fit (p || q) (merged p q both x y) ≡ true
bits-fit true q both x y = refl
bits-fit false true both x y = refl
bits-fit false false both x y = refl

-- the larger of two numbers from low to high is from low to high
max-fits : (low high x y : ℕ) → (leb low x && leb x high) ≡ true → (leb low y && leb y high) ≡ true → (leb low (max x y) && leb (max x y) high) ≡ true
max-fits low high x y e f =
    let a = split-and (leb low x) (leb x high) e in
    let b = split-and (leb low y) (leb y high) f in
    let l : low ≤ max x y = omega (arith, leb-true low x a.0) in
    let h : max x y ≤ high = omega (arith, leb-true x high a.1, leb-true y high b.1) in
    rw (le-leb low (max x y) l, le-leb (max x y) high h)

cut_fits : (p q : Bool) (x y : ℕ) → digits_fit p x ≡ true → digits_fit q y ≡ true → digits_fit (p && q) (cond (p && q) (max x y) 0) ≡ true
unfolding digits_fit
cut_fits true true x y e f = max-fits 1 6 x y e f
cut_fits true false x y e f = refl
cut_fits false q x y e f = refl

pub digits-fit : (p q : Bool) (s t x y : ℕ) → digits_fit (bit_at s 2) x ≡ true → digits_fit (bit_at t 2) y ≡ true
    → digits_fit (bit_at (merged p q (bit_and s t) s t) 2) (merged p q (digits_with (bit_and s t) (max x y)) x y) ≡ true
unfolding digits_fit field_at
digits-fit true true s t x y e f = rw (bit-and s t 2) (cut_fits (bit_at s 2) (bit_at t 2) x y e f)
digits-fit true false s t x y e f = e
digits-fit false true s t x y e f = f
digits-fit false false s t x y e f = refl

pub minimum-fits : (least : ℕ) (p q : Bool) (x y : ℕ) → minimum_fits least p x ≡ true → minimum_fits least q y ≡ true
    → minimum_fits least (p || q) (merged p q (max x y) x y) ≡ true
unfolding minimum_fits
minimum-fits least true true x y e f = max-fits least 1023 x y e f
minimum-fits least true false x y e f = e
minimum-fits least false true x y e f = f
minimum-fits least false false x y e f = refl
