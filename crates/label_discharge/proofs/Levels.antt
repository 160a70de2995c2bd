-- A level's masks take what its rule names: the stages above its own, and the word without it. Assumes nothing.
use Prim.Native.Nat.{ℕ, zero, suc, ◌<◌, ◌^◌}
use mathlib.Core.Path.{◌≡◌, refl, ap, ap₂, ◌∙◌}
use mathlib.Core.Bool.{Bool, true, false, cond, not, ◌&&◌, ◌||◌}
use mathlib.Core.List.{[], ◌∷◌}
use native.Mathlib.Omega.{arith}
use lib.Bits.{bit_and}
use lib.Dec.{eqb}
use Rattle.label_words.specs.Answers.{label, forbidden}
use Rattle.label_words.specs.Word.{field_at, has_h, has_t, has_a, has_n}
use Rattle.label_words.proofs.Masks.{mask-zero}
use Rattle.label_words.proofs.Words.{field_lt}
use Rattle.label_discharge.specs.Discharge.{allows_transform, discharges_a, allows_noise, forbids_t, forbids_a, forbids_n, after_t, after_a, after_n, transformed, aggregated, noised}
use Rattle.label_discharge.proofs.Masked.{without-T, without-A, without-N}

-- a bit that is not zero is one
one : (b : ℕ) → b < 2 → not (eqb b 0) ≡ eqb b 1
one zero h = refl
one (suc zero) h = refl
one (suc (suc b)) h = absurd (omega arith)

either : (a b : Bool) → not (a && b) ≡ (not a || not b)
either true b = refl
either false b = refl

above : (higher stage allowed : Bool) (left word : ℕ)
    → cond higher forbidden (label (cond (stage && allowed) left word)) ≡ cond higher forbidden (label (cond (not higher && stage && allowed) left word))
above true stage allowed left word = refl
above false stage allowed left word = refl

module _ (word : ℕ) where
  bit-one : (at : ℕ) → not (eqb (field_at word at 1) 0) ≡ eqb (field_at word at 1) 1
  bit-one at = one (field_at word at 1) (field_lt word at 1)

  above-T : not (eqb (bit_and word 0x80000000) 0) ≡ has_h word
  above-T = ap not (mask-zero word ((31, true) ∷ (1, false) ∷ [])) ∙ bit-one 31

  above-A : not (eqb (bit_and word 0xC0000000) 0) ≡ (has_h word || has_t word)
  above-A = ap not (mask-zero word ((30, true) ∷ (1, false) ∷ (1, false) ∷ [])) ∙ either (eqb (field_at word 31 1) 0) _ ∙ ap₂ ◌||◌ (bit-one 31) (bit-one 30)

  above-N : not (eqb (bit_and word 0xE0000000) 0) ≡ (has_h word || has_t word || has_a word)
  above-N =
      ap not (mask-zero word ((29, true) ∷ (1, false) ∷ (1, false) ∷ (1, false) ∷ []))
      ∙ either (eqb (field_at word 31 1) 0 && eqb (field_at word 30 1) 0) _
      ∙ ap₂ ◌||◌ (either (eqb (field_at word 31 1) 0) _ ∙ ap₂ ◌||◌ (bit-one 31) (bit-one 30)) (bit-one 29)

module _ (word : ℕ) (fits : word < 2 ^ 32) (operation measure : ℕ) where
  pub at-T : cond (not (eqb (bit_and word 0x80000000) 0)) forbidden (label (cond (has_t word && allows_transform word operation measure) (bit_and word 0b1011_0000_1_00_11111_000_000_1111111111) word))
      ≡ transformed word operation measure
  unfolding transformed forbids_t after_t
  at-T = rw (above-T word, without-T word fits) (above (has_h word) (has_t word) _ _ word)

  pub at-A : cond (not (eqb (bit_and word 0xC0000000) 0)) forbidden (label (cond (has_a word && discharges_a word operation measure) (bit_and word 0b1101_1111_1_00_00000_000_111_0000000000) word))
      ≡ aggregated word operation measure
  unfolding aggregated forbids_a after_a
  at-A = rw (above-A word, without-A word fits) (above (has_h word || has_t word) (has_a word) _ _ word)

pub at-N : (word : ℕ) → word < 2 ^ 32
    → cond (not (eqb (bit_and word 0xE0000000) 0)) forbidden (label (cond (has_n word && allows_noise word) (bit_and word 0b1110_1111_0_00_11111_000_111_1111111111) word)) ≡ noised word
unfolding noised forbids_n after_n
at-N word fits = rw (above-N word, without-N word fits) (above (has_h word || has_t word || has_a word) (has_n word) _ _ word)
