-- The bounds of the fields that composition makes. Assumes nothing.
use Prim.Native.Nat.{ℕ, max, ◌<◌, ◌^◌}
use mathlib.Core.Bool.{Bool, true, false, cond}
use native.Mathlib.Nat.{lt_of_le_of_lt}
use native.Mathlib.Omega.{arith}
use lib.Bits.{bit_and, bit_or, and_le_l, or_lt}
use Rattle.label_composition.specs.Composition.{merged, transforms_both, digits_both, aggregates_both, minimum_both, noise_both}
use Rattle.label_words.specs.Word.{field_at, bit_at, has_t, has_a, has_n, stages_of, transforms_of, digits_of, minimum_of}
use Rattle.label_words.proofs.Words.{field_lt}

-- what both make, and what each has, bounds a merged field
merged-lt : (p q : Bool) {both left right n : ℕ} → both < n → left < n → right < n → merged p q both left right < n
merged-lt true true b l r = b
merged-lt true false b l r = l
merged-lt false true b l r = r
merged-lt false false b l r = omega arith

pub and_below : (a b : ℕ) {n : ℕ} → a < n → bit_and a b < n
and_below a b h = lt_of_le_of_lt (and_le_l a b) h

cond-lt : (b : Bool) {x n : ℕ} → x < n → cond b x 0 < n
cond-lt true h = h
cond-lt false h = omega arith

module _ (a b : ℕ) where
  -- a field of a stage, where both have it the common bits
  common-lt : (p q : Bool) (at width : ℕ) → merged p q (bit_and (field_at a at width) (field_at b at width)) (field_at a at width) (field_at b at width) < 2 ^ width
  common-lt p q at width =
      merged-lt p q (and_below (field_at a at width) (field_at b at width) (field_lt a at width)) (field_lt a at width) (field_lt b at width)

  pub stages-lt : bit_or (stages_of a) (stages_of b) < 16
  stages-lt = or_lt 4 (stages_of a) (stages_of b) (field_lt a 28 4) (field_lt b 28 4)

  pub transforms-lt : transforms_both a b < 16
  unfolding transforms_both
  transforms-lt = common-lt (has_t a) (has_t b) 24 4

  pub aggregates-lt : aggregates_both a b < 32
  unfolding aggregates_both
  aggregates-lt = common-lt (has_a a) (has_a b) 16 5

  pub noise-lt : noise_both a b < 2
  unfolding noise_both
  noise-lt = common-lt (has_n a) (has_n b) 23 1

  pub digits_lt : digits_both a b < 8
  unfolding digits_both
  digits_lt =
      let l : digits_of a < 8 = field_lt a 10 3 in
      let r : digits_of b < 8 = field_lt b 10 3 in
      merged-lt (has_t a) (has_t b) (cond-lt (bit_at (bit_and (transforms_of a) (transforms_of b)) 2) {x = max (digits_of a) (digits_of b)} (omega arith)) l r

  pub minimum-lt : minimum_both a b < 1024
  unfolding minimum_both
  minimum-lt =
      let l : minimum_of a < 1024 = field_lt a 0 10 in
      let r : minimum_of b < 1024 = field_lt b 0 10 in
      merged-lt (has_a a) (has_a b) {both = max (minimum_of a) (minimum_of b)} (omega arith) l r
