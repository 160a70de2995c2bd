-- The fields of a packed word are what was packed, and the bits of a field are the word's. Assumes nothing.
use Prim.Native.Nat.{ℕ, zero, suc, ◌+◌, ◌-◌, ◌*◌, ◌/◌, ◌^◌, ◌<◌}
use mathlib.Core.Path.{◌≡◌, refl, sym, ap, ◌∙◌}
use mathlib.Core.Bool.{◌&&◌, ◌||◌}
use native.Mathlib.Nat.{div-one}
use native.Mathlib.Omega.{arith}
use lib.Bits.{bit_and, bit_or, and_shr, and_mod, or_shr, or_mod}
use lib.Dec.{eqb}
use lib.Pow.{split, shr-shr, shr_mod, field, mod-mod-pow}
use Rattle.label_words.specs.Word.{field_at, bit_at, stages_of, transforms_of, digits_of, aggregates_of, minimum_of, noise_of, packed}
use Rattle.label_words.proofs.Words.{field_lt}

-- the fields of a word, with its reserved bits zero
pub record Fields (word s t x g d m : ℕ) : Type 0 where
  pub small : word < 2 ^ 32
  pub stages : stages_of word ≡ s
  pub transforms : transforms_of word ≡ t
  pub noise : noise_of word ≡ x
  pub upper : field_at word 21 2 ≡ 0
  pub aggregates : aggregates_of word ≡ g
  pub lower : field_at word 13 3 ≡ 0
  pub digits : digits_of word ≡ d
  pub minimum : minimum_of word ≡ m

pub packed-fields : (s t x g d m : ℕ) → s < 16 → t < 16 → x < 2 → g < 32 → d < 8 → m < 1024 → Fields (packed s t x g d m) s t x g d m
unfolding packed field_at
packed-fields s t x g d m hs ht hx hg hd hm = omega arith

-- what stands from bit `at` on: what stands above the field there, and the field
pub peel : (word at width : ℕ) → word / 2 ^ at ≡ word / 2 ^ (at + width) * 2 ^ width + field_at word at width
unfolding field_at
peel word at width = rw (← shr-shr word at width) (sym (split (word / 2 ^ at) width))

peeled : (s t x g d m : ℕ) {w₀ w₁₀ w₁₃ w₁₆ w₂₁ w₂₃ w₂₄ w₂₈ : ℕ} → w₀ ≡ w₁₀ * 1024 + m → w₁₀ ≡ w₁₃ * 8 + d → w₁₃ ≡ w₁₆ * 8 + 0 → w₁₆ ≡ w₂₁ * 32 + g
    → w₂₁ ≡ w₂₃ * 4 + 0 → w₂₃ ≡ w₂₄ * 2 + x → w₂₄ ≡ w₂₈ * 16 + t → w₂₈ ≡ s → packed s t x g d m ≡ w₀
unfolding packed
peeled s t x g d m e₁ e₂ e₃ e₄ e₅ e₆ e₇ e₈ = omega arith

-- a word with its reserved bits zero is the word of its fields
pub repacked : (word : ℕ) → word < 2 ^ 32 → field_at word 21 2 ≡ 0 → field_at word 13 3 ≡ 0
    → packed (stages_of word) (transforms_of word) (noise_of word) (aggregates_of word) (digits_of word) (minimum_of word) ≡ word
repacked word h u l =
    peeled (stages_of word) (transforms_of word) (noise_of word) (aggregates_of word) (digits_of word) (minimum_of word) (sym (div-one word) ∙ peel word 0 10) (peel word 10 3) (rw l at (peel word 13 3)) (peel word 16 5) (rw u at (peel word 21 2)) (peel word 23 1)
    (peel word 24 4) (unfold field_at in sym (shr_mod 4 28 h))

pub same-packed : {s s' t t' x x' g g' d d' m m' : ℕ} → s ≡ s' → t ≡ t' → x ≡ x' → g ≡ g' → d ≡ d' → m ≡ m' → packed s t x g d m ≡ packed s' t' x' g' d' m'
same-packed e₁ e₂ e₃ e₄ e₅ e₆ = cc

-- ---- bits

field-of-field : (word at b k j : ℕ) → field_at (field_at word at (j + k + b)) b k ≡ field_at word (at + b) k
unfolding field_at
field-of-field word at b k j = rw (field, mod-mod-pow, shr-shr)

-- bit i of a field is bit at + i of the word
pub bit-of-field : (word at width i : ℕ) → i < width → bit_at (field_at word at width) i ≡ bit_at word (at + i)
bit-of-field word at width i h =
    let e : (width - 1 - i) + 1 + i ≡ width = omega arith in
    ap (λ (f : ℕ). eqb f 1) (rw e at (field-of-field word at i 1 (width - 1 - i)))

or-bits : (p q : ℕ) → p < 2 → q < 2 → eqb (bit_or p q) 1 ≡ (eqb p 1 || eqb q 1)
or-bits zero zero h k = refl
or-bits zero (suc zero) h k = refl
or-bits zero (suc (suc q)) h k = absurd (omega arith)
or-bits (suc zero) zero h k = refl
or-bits (suc zero) (suc zero) h k = refl
or-bits (suc zero) (suc (suc q)) h k = absurd (omega arith)
or-bits (suc (suc p)) q h k = absurd (omega arith)

and-bits : (p q : ℕ) → p < 2 → q < 2 → eqb (bit_and p q) 1 ≡ (eqb p 1 && eqb q 1)
and-bits zero zero h k = refl
and-bits zero (suc zero) h k = refl
and-bits zero (suc (suc q)) h k = absurd (omega arith)
and-bits (suc zero) zero h k = refl
and-bits (suc zero) (suc zero) h k = refl
and-bits (suc zero) (suc (suc q)) h k = absurd (omega arith)
and-bits (suc (suc p)) q h k = absurd (omega arith)

module _ (x y at : ℕ) where
  field-or : field_at (bit_or x y) at 1 ≡ bit_or (field_at x at 1) (field_at y at 1)
  unfolding field_at
  field-or = rw (or_shr x y at) (or_mod (x / 2 ^ at) (y / 2 ^ at) 1)

  field-and : field_at (bit_and x y) at 1 ≡ bit_and (field_at x at 1) (field_at y at 1)
  unfolding field_at
  field-and = rw (and_shr x y at) (and_mod (x / 2 ^ at) (y / 2 ^ at) 1)

  pub bit-or : bit_at (bit_or x y) at ≡ (bit_at x at || bit_at y at)
  bit-or = ap (λ (f : ℕ). eqb f 1) field-or ∙ or-bits (field_at x at 1) (field_at y at 1) (field_lt x at 1) (field_lt y at 1)

  pub bit-and : bit_at (bit_and x y) at ≡ (bit_at x at && bit_at y at)
  bit-and = ap (λ (f : ℕ). eqb f 1) field-and ∙ and-bits (field_at x at 1) (field_at y at 1) (field_lt x at 1) (field_lt y at 1)
