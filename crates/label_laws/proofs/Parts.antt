-- Well-formedness, stage by stage: what the fields of each stage fit. Assumes nothing.
use Prim.Native.Nat.{ℕ, ◌^◌, ◌<◌}
use mathlib.Core.Path.{◌≡◌, ap}
use mathlib.Core.Bool.{Bool, true, false, ◌&&◌, ◌||◌, and-eq-true_iff, true≢false}
use lib.Dec.{eqb, ltb, lit<}
use borrow.Author.Tests.{eqb-true, ltb-true, lt-ltb, eq-eqb}
use Rattle.label_words.specs.WellFormed.{reserved_zero, transform_fits, aggregate_fits, noise_fits, digits_fit, minimum_fits, smallest_minimum, well_formed_from, well_formed}
use Rattle.label_words.specs.Word.{field_at, bit_at, has_t, has_a, has_n, transforms_of, digits_of, aggregates_of, minimum_of, noise_of}
use Rattle.label_words.proofs.Packed.{bit-of-field}

-- the allowed bits of a stage: none where it is absent
abbrev pub bits_fit : Bool → ℕ → Bool
bits_fit present bits = present || eqb bits 0

pub record Parts (word : ℕ) : Type 0 where
  pub small : word < 2 ^ 32
  pub upper : field_at word 21 2 ≡ 0
  pub lower : field_at word 13 3 ≡ 0
  pub transforms : bits_fit (has_t word) (transforms_of word) ≡ true
  pub digits : digits_fit (bit_at (transforms_of word) 2) (digits_of word) ≡ true
  pub aggregates : bits_fit (has_a word) (aggregates_of word) ≡ true
  pub minimum : minimum_fits smallest_minimum (has_a word) (minimum_of word) ≡ true
  pub noise : bits_fit (has_n word) (noise_of word) ≡ true

pub split-and : (a b : Bool) → (a && b) ≡ true → (a ≡ true) × (b ≡ true)
split-and a b e = (and-eq-true_iff a b).0 e

no_bits : (present : Bool) (bits : ℕ) → bits_fit present bits ≡ true → present ≡ false → bits ≡ 0
no_bits true bits f e = absurd (true≢false e)
no_bits false bits f e = eqb-true bits 0 f

module _ (word : ℕ) where
  cut-bit : bit_at (transforms_of word) 2 ≡ bit_at word 26
  cut-bit = bit-of-field word 24 4 2 (lit< tt)

  pub parts : well_formed word ≡ true → Parts word
  unfolding well_formed well_formed_from
  parts e =
      let n = split-and (ltb word (2 ^ 32) && reserved_zero word && transform_fits word && aggregate_fits smallest_minimum word) (noise_fits word) e in
      let a = split-and (ltb word (2 ^ 32) && reserved_zero word && transform_fits word) (aggregate_fits smallest_minimum word) n.0 in
      let t = split-and (ltb word (2 ^ 32) && reserved_zero word) (transform_fits word) a.0 in
      let r = split-and (ltb word (2 ^ 32)) (reserved_zero word) t.0 in
      let z = split-and (eqb (field_at word 21 2) 0) (eqb (field_at word 13 3) 0) r.1 in
      let ts = split-and (bits_fit (has_t word) (transforms_of word)) (digits_fit (bit_at word 26) (digits_of word)) t.1 in
      let gs = split-and (bits_fit (has_a word) (aggregates_of word)) (minimum_fits smallest_minimum (has_a word) (minimum_of word)) a.1 in
      record {
        small = ltb-true word (2 ^ 32) r.0;
        upper = eqb-true (field_at word 21 2) 0 z.0;
        lower = eqb-true (field_at word 13 3) 0 z.1;
        transforms = ts.0;
        digits = rw cut-bit ts.1;
        aggregates = gs.0;
        minimum = gs.1;
        noise = n.1;
      }

  pub whole : Parts word → well_formed word ≡ true
  unfolding well_formed well_formed_from
  whole p =
      rw (lt-ltb word (2 ^ 32) p.small, eq-eqb _ 0 p.upper, eq-eqb _ 0 p.lower, p.transforms, ← cut-bit, p.digits, p.aggregates, p.minimum, p.noise)

  -- an absent stage has no fields
  module _ (p : Parts word) where
    pub no-transforms : has_t word ≡ false → transforms_of word ≡ 0
    no-transforms e = no_bits (has_t word) (transforms_of word) p.transforms e

    pub no-aggregates : has_a word ≡ false → aggregates_of word ≡ 0
    no-aggregates e = no_bits (has_a word) (aggregates_of word) p.aggregates e

    pub no-noise : has_n word ≡ false → noise_of word ≡ 0
    no-noise e = no_bits (has_n word) (noise_of word) p.noise e

    pub no-digits : bit_at (transforms_of word) 2 ≡ false → digits_of word ≡ 0
    unfolding digits_fit
    no-digits e = eqb-true (digits_of word) 0 (rw e at p.digits)

    pub no-minimum : has_a word ≡ false → minimum_of word ≡ 0
    unfolding minimum_fits
    no-minimum e = eqb-true (minimum_of word) 0 (rw e at p.minimum)

    pub no_cut : has_t word ≡ false → digits_of word ≡ 0
    unfolding field_at
    no_cut e = no-digits (ap (λ (t : ℕ). bit_at t 2) (no-transforms e))
