-- A word with some of its fields masked out is the word of the others. Assumes nothing.
use Prim.Native.Nat.{ℕ, ◌-◌, ◌/◌, ◌^◌, ◌<◌}
use mathlib.Core.Path.{◌≡◌, refl, sym, ◌∙◌}
use native.Mathlib.Nat.{mod-eq_of_lt, lt_of_le_of_lt}
use lib.Bits.{bit_and, and_shr, and_mod, and_mask, and_le_l, and_zero_r}
use Rattle.label_words.specs.Word.{field_at}
use Rattle.label_words.proofs.Packed.{repacked, same-packed}
use Rattle.label_words.proofs.Words.{field_lt}
use Rattle.label_discharge.specs.Discharge.{without_t, without_a, without_n}

module _ (word mask : ℕ) where
  -- a field of the masked word
  field_of : (at width : ℕ) → field_at (bit_and word mask) at width ≡ bit_and (field_at word at width) (field_at mask at width)
  unfolding field_at
  field_of at width = rw (and_shr word mask at) (and_mod (word / 2 ^ at) (mask / 2 ^ at) width)

  -- a field that the mask keeps, and one that it takes away
  kept : (at width : ℕ) → field_at mask at width ≡ 2 ^ width - 1 → field_at (bit_and word mask) at width ≡ field_at word at width
  kept at width e = rw (field_of at width, e, and_mask (field_at word at width) width) (mod-eq_of_lt (field_lt word at width))

  gone : (at width : ℕ) → field_at mask at width ≡ 0 → field_at (bit_and word mask) at width ≡ 0
  gone at width e = rw (field_of at width, e) (and_zero_r (field_at word at width))

module _ (word : ℕ) (fits : word < 2 ^ 32) where
  small : (mask : ℕ) → bit_and word mask < 2 ^ 32
  small mask = lt_of_le_of_lt (and_le_l word mask) fits

  pub without-T : bit_and word 0b1011_0000_1_00_11111_000_000_1111111111 ≡ without_t word
  unfolding without_t field_at
  without-T =
      let m : ℕ = 0b1011_0000_1_00_11111_000_000_1111111111 in
      sym (repacked (bit_and word m) (small m) (gone word m 21 2 refl) (gone word m 13 3 refl))
      ∙ same-packed (field_of word m 28 4) (gone word m 24 4 refl) (kept word m 23 1 refl) (kept word m 16 5 refl) (gone word m 10 3 refl) (kept word m 0 10 refl)

  pub without-A : bit_and word 0b1101_1111_1_00_00000_000_111_0000000000 ≡ without_a word
  unfolding without_a field_at
  without-A =
      let m : ℕ = 0b1101_1111_1_00_00000_000_111_0000000000 in
      sym (repacked (bit_and word m) (small m) (gone word m 21 2 refl) (gone word m 13 3 refl))
      ∙ same-packed (field_of word m 28 4) (kept word m 24 4 refl) (kept word m 23 1 refl) (gone word m 16 5 refl) (kept word m 10 3 refl) (gone word m 0 10 refl)

  pub without-N : bit_and word 0b1110_1111_0_00_11111_000_111_1111111111 ≡ without_n word
  unfolding without_n field_at
  without-N =
      let m : ℕ = 0b1110_1111_0_00_11111_000_111_1111111111 in
      sym (repacked (bit_and word m) (small m) (gone word m 21 2 refl) (gone word m 13 3 refl))
      ∙ same-packed (field_of word m 28 4) (kept word m 24 4 refl) (gone word m 23 1 refl) (kept word m 16 5 refl) (kept word m 10 3 refl) (kept word m 0 10 refl)
