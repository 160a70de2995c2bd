-- Fields that a mask takes, and the bit that stands above them. Assumes nothing.
use Prim.Native.Nat.{ℕ, zero, suc, ◌+◌, ◌-◌, ◌*◌, ◌/◌, ◌%◌, ◌^◌, ◌<◌}
use mathlib.Core.Path.{◌≡◌, refl, sym, ap, ◌∙◌}
use mathlib.Core.Bool.{Bool, true, false, cond, not, ◌&&◌, ◌||◌, beq, and-true, and_assoc}
use mathlib.Core.List.{List, [], ◌∷◌}
use native.Mathlib.Nat.{div-one, mod-eq_of_lt, zero-mul, zero-add, suc-mul, one-mul, lt_of_le_of_lt}
use native.Mathlib.Omega.{arith}
use lib.Bits.{bit_and, bit_xor, and_block, and_mask, and_zero_r, and_high, and_le_r, xor_block, xor_zero_r}
use lib.Dec.{T, eqb, leb, ltb, lit<}
use lib.Pow.{pow_pos, ones_lt}
use borrow.Author.Tests.{ltb-true, ltb-false, le-ltb, ne_eqb, le-leb, lt-leb}
use Rattle.label_words.specs.WellFormed.{reserved_zero, digits_fit, minimum_fits, transform_fits, aggregate_fits, noise_fits}
use Rattle.label_words.specs.Word.{field_at, bit_at, has_a, digits_of, minimum_of}
use Rattle.label_words.proofs.Below.{below}
use Rattle.label_words.proofs.Packed.{peel}
use Rattle.label_words.proofs.Words.{field_lt}

-- Fields are listed from a bit on, each with its width and whether the mask leaves it out. Their mask, and whether those that it takes are zero.
abbrev pub mask : List (ℕ × Bool) → ℕ
mask [] = 0
mask (f ∷ rest) = mask rest * 2 ^ f.0 + cond f.1 0 (2 ^ f.0 - 1)

abbrev pub all_zero : ℕ → ℕ → List (ℕ × Bool) → Bool
all_zero word at [] = true
all_zero word at (f ∷ rest) = cond f.1 (all_zero word (at + f.0) rest) (all_zero word (at + f.0) rest && eqb (field_at word at f.0) 0)

sum-zero : (x y p : ℕ) → 0 < p → eqb (x * p + y) 0 ≡ (eqb x 0 && eqb y 0)
sum-zero zero y p h = rw (zero-mul p, zero-add y)
sum-zero (suc x) y p h =
    let e : suc x * p ≡ x * p + p = suc-mul x p in
    rw (ne_eqb (suc x * p + y) 0 (λ n. omega (arith, e, n, h)), ne_eqb (suc x) 0 (λ n. omega (arith, n)))

left_out : (out rest own : Bool) → (rest && (out || own)) ≡ cond out rest (rest && own)
left_out true rest own = and-true rest
left_out false rest own = refl

taken-lt : (out : Bool) (k : ℕ) → cond out 0 (2 ^ k - 1) < 2 ^ k
taken-lt true k = pow_pos k
taken-lt false k = ones_lt k

-- what the mask leaves of the word: its lowest field meets the word's, and the rest of the mask the rest of the word
kept : ℕ → ℕ → List (ℕ × Bool) → ℕ
kept word at [] = 0
kept word at (f ∷ rest) = kept word (at + f.0) rest * 2 ^ f.0 + cond f.1 0 (field_at word at f.0)

taken_is : (out : Bool) (f k : ℕ) → f < 2 ^ k → bit_and f (cond out 0 (2 ^ k - 1)) ≡ cond out 0 f
taken_is true f k h = and_zero_r f
taken_is false f k h = and_mask f k ∙ mod-eq_of_lt h

masked : (word at : ℕ) (fields : List (ℕ × Bool)) → bit_and (word / 2 ^ at) (mask fields) ≡ kept word at fields
unfolding kept
masked word at [] = and_zero_r (word / 2 ^ at)
masked word at (f ∷ rest) =
    let own = field_at word at f.0 in
    let upper = word / 2 ^ (at + f.0) in
    let taken = cond f.1 0 (2 ^ f.0 - 1) in
    let lt = field_lt word at f.0 in
    rw (peel word at f.0, and_block f.0 upper (mask rest) own taken lt (taken-lt f.1 f.0), taken_is f.1 own f.0 lt, masked word (at + f.0) rest)

mask_is : (word : ℕ) (fields : List (ℕ × Bool)) → bit_and word (mask fields) ≡ kept word 0 fields
mask_is word fields = ap (λ (w : ℕ). bit_and w (mask fields)) (sym (div-one word)) ∙ masked word 0 fields

none_kept : (out : Bool) (own : ℕ) → eqb (cond out 0 own) 0 ≡ (out || eqb own 0)
none_kept true own = refl
none_kept false own = refl

kept-zero : (word at : ℕ) (fields : List (ℕ × Bool)) → eqb (kept word at fields) 0 ≡ all_zero word at fields
unfolding kept
kept-zero word at [] = refl
kept-zero word at (f ∷ rest) =
    rw (sum-zero (kept word (at + f.0) rest) (cond f.1 0 (field_at word at f.0)) (2 ^ f.0) (pow_pos f.0), none_kept f.1, kept-zero word (at + f.0) rest)
    (left_out f.1 (all_zero word (at + f.0) rest) (eqb (field_at word at f.0) 0))

-- the bits that the mask takes are zero where its fields are
pub mask-zero : (word : ℕ) (fields : List (ℕ × Bool)) → eqb (bit_and word (mask fields)) 0 ≡ all_zero word 0 fields
mask-zero word fields = ap (λ (w : ℕ). eqb w 0) (mask_is word fields) ∙ kept-zero word 0 fields

-- ---- the bit above

none-most : (z : ℕ) → leb z 0 ≡ eqb z 0
none-most zero = refl
none-most (suc z) = rw (lt-leb (suc z) 0 (omega arith), ne_eqb (suc z) 0 (λ n. omega (arith, n)))

no_more : (b z p : ℕ) → b < 2 → z < p → leb z (b * p) ≡ (eqb b 1 || eqb z 0)
no_more zero z p h k = rw (zero-mul p) (none-most z)
no_more (suc zero) z p h k = rw (one-mul p) (le-leb z p (omega arith))
no_more (suc (suc b)) z p h k = absurd (omega (arith, h))

-- fields are no more than the bit above them where it is one, or all are zero
guarded : (word at : ℕ) (fields : List (ℕ × Bool)) → mask fields < 2 ^ at
    → leb (bit_and word (mask fields)) (bit_and word (2 ^ (1 + at) - 2 ^ at)) ≡ (bit_at word at || all_zero word 0 fields)
unfolding field_at
guarded word at fields h =
    rw (and_high word 1 at, no_more (word / 2 ^ at % 2 ^ 1) (bit_and word (mask fields)) (2 ^ at) (field_lt word at 1) (lt_of_le_of_lt (and_le_r word (mask fields)) h), mask-zero word fields)

-- ---- the two fields that may not be zero where they are asked for

-- asked for and not lacking, or not asked for and none
asked : (p none lacks : Bool) → ((p || none) && not (p && lacks)) ≡ cond p (not lacks) none
asked true none lacks = refl
asked false none lacks = and-true none

-- the same of a stage with another field
both-fields : (p other none lacks : Bool) → ((p || (other && none)) && not (p && lacks)) ≡ ((p || other) && cond p (not lacks) none)
both-fields true other none lacks = refl
both-fields false other none lacks = and-true (other && none)

same : (a b : Bool) → T (beq a b) → a ≡ b
same true true t = refl
same true false t = absurd t
same false true t = absurd t
same false false t = refl

few : ℕ → Bool
few d = beq (not (eqb (bit_and (d + 1) 6) 0)) (leb 1 d && leb d 6)

digits-lack : (d : ℕ) → d < 8 → not (eqb (bit_and (d + 1) 6) 0) ≡ (leb 1 d && leb d 6)
unfolding few
digits-lack d h = same _ _ (below 8 few tt d h)

-- the bit of stage A and the minimum below it, as one number
pub bit-and-minimum : (word : ℕ) → bit_and word 0x200003FF ≡ field_at word 29 1 * 2 ^ 29 + minimum_of word
unfolding kept
bit-and-minimum word = mask_is word ((10, false) ∷ (19, true) ∷ (1, false) ∷ []) ∙ omega arith

-- with the bit turned round it is below the least where the stage is present and the minimum below that
pub turned : (b m least : ℕ) → b < 2 → m < 1024 → least < 2 ^ 29 → ltb (bit_xor (b * 2 ^ 29 + m) (1 * 2 ^ 29 + 0)) least ≡ (eqb b 1 && ltb m least)
turned zero m least h k l = rw (xor_block 29 0 1 m 0 (omega arith) (omega arith), xor_zero_r m, le-ltb (1 * 2 ^ 29 + m) least (omega arith))
turned (suc zero) m least h k l = let z : 0 * 2 ^ 29 + m ≡ m = omega arith in rw (xor_block 29 1 1 m 0 (omega arith) (omega arith), xor_zero_r m, z)
turned (suc (suc b)) m least h k l = absurd (omega (arith, h))

minimum-lacks : (least m : ℕ) → m < 1024 → not (ltb m least) ≡ (leb least m && leb m 1023)
minimum-lacks least m h = go (ltb m least) refl
  where
    go : (b : Bool) → ltb m least ≡ b → not (ltb m least) ≡ (leb least m && leb m 1023)
    go true e = rw (e, lt-leb least m (ltb-true m least e))
    go false e = rw (e, le-leb least m (ltb-false m least e), le-leb m 1023 (omega arith))

-- ---- the parts of the test

module _ (word : ℕ) where
  pub reserved-by-mask : eqb (bit_and word 0x0060E000) 0 ≡ reserved_zero word
  reserved-by-mask = mask-zero word ((13, true) ∷ (3, false) ∷ (5, true) ∷ (2, false) ∷ [])

  pub transform-by-mask : (leb (bit_and word 0x0F000000) (bit_and word 0x40000000) && leb (bit_and word 0x1C00) (bit_and word 0x04000000) && not (bit_at word 26 && eqb (bit_and (digits_of word + 1) 6) 0)) ≡ transform_fits word
  unfolding digits_fit
  transform-by-mask =
      rw (guarded word 30 ((24, true) ∷ (4, false) ∷ []) (lit< tt), guarded word 26 ((10, true) ∷ (3, false) ∷ []) (lit< tt), and_assoc, asked (bit_at word 26), digits-lack (digits_of word) (field_lt word 10 3))

  pub aggregate-by-mask : (least : ℕ) → least < 2 ^ 29
      → (leb (bit_and word 0x001F03FF) (bit_and word 0x20000000) && not (ltb (bit_xor (bit_and word 0x200003FF) 0x20000000) least)) ≡ aggregate_fits least word
  unfolding minimum_fits
  aggregate-by-mask least l =
      rw (
        bit-and-minimum word,
        turned (field_at word 29 1) (minimum_of word) least (field_lt word 29 1) (field_lt word 0 10) l,
        guarded word 29 ((10, false) ∷ (6, true) ∷ (5, false) ∷ []) (lit< tt),
        both-fields (has_a word),
        minimum-lacks least (minimum_of word) (field_lt word 0 10),
      )

  pub noise-by-mask : leb (bit_and word 0x00800000) (bit_and word 0x10000000) ≡ noise_fits word
  noise-by-mask = guarded word 28 ((23, true) ∷ (1, false) ∷ []) (lit< tt)
