-- A word is a label where its bytes fit, and its stages are the ones of its first byte's upper half. Assumes nothing.
use Prim.Native.Nat.{ℕ, ◌+◌, ◌*◌, ◌/◌, ◌^◌, ◌<◌}
use mathlib.Core.Path.{◌≡◌, refl, ap, ◌∙◌}
use mathlib.Core.Bool.{Bool, true, false, ◌&&◌, ◌||◌, and_assoc, and_comm}
use mathlib.Core.List.{List}
use native.Mathlib.Omega.{arith}
use lib.Count.{ones}
use lib.Dec.{eqb}
use lib.ListN.{get_or}
use borrow.Author.Tests.{lt-ltb}
use Rattle.label_words.specs.Stages.{stage_count}
use Rattle.label_words.specs.WellFormed.{digits_fit, minimum_fits, noise_fits, smallest_minimum, well_formed_from, well_formed}
use Rattle.label_words.specs.Word.{field_at, bit_at, has_t, has_a, transforms_of, digits_of, aggregates_of, minimum_of, noise_of}
use Rattle.little_endian.specs.Bytes.{number_at}
use Rattle.label_words.proofs.Words.{count-is}
use Rattle.little_endian.proofs.Numbers.{number-one, joined}
use Rattle.label_bytes.specs.Bytes.{first_fits, second_fits, third_fits}

and-left-comm : (a b c : Bool) → (a && (b && c)) ≡ (b && (a && c))
and-left-comm true b c = refl
and-left-comm false true c = refl
and-left-comm false false c = refl

-- the tests of a label, in the order of the bytes
reordered : (upper lower transforms digits aggregates minimum noise : Bool)
    → (true && (upper && lower) && (transforms && digits) && (aggregates && minimum) && noise)
    ≡ (transforms && (noise && upper && aggregates) && (lower && digits) && minimum)
reordered upper lower transforms digits aggregates minimum noise = simp (and_assoc, and_comm, and-left-comm)

-- each field of a word, within its byte
record Fields (word first second third fourth : ℕ) : Type 0 where
  small : word < 2 ^ 32
  stage-T : field_at word 30 1 ≡ field_at first 6 1
  stage-A : field_at word 29 1 ≡ field_at first 5 1
  stage-N : field_at word 28 1 ≡ field_at first 4 1
  cut : field_at word 26 1 ≡ field_at first 2 1
  transforms : transforms_of word ≡ field_at first 0 4
  noise : noise_of word ≡ field_at second 7 1
  upper : field_at word 21 2 ≡ field_at second 5 2
  aggregates : aggregates_of word ≡ field_at second 0 5
  lower : field_at word 13 3 ≡ field_at third 5 3
  digits : digits_of word ≡ field_at third 2 3
  minimum : minimum_of word ≡ 256 * field_at third 0 2 + fourth

module _ (bytes : List ℕ) (at : ℕ) (small : (i : ℕ) → get_or bytes i 0 < 256) where
  word-is : get_or bytes at 0 + 256 * get_or bytes (at + 1) 0 + 65536 * (get_or bytes (at + 2) 0 + 256 * get_or bytes (at + 3) 0) ≡ number_at bytes at 4
  word-is =
      let e : at + 2 + 1 ≡ at + 3 = omega arith in
      joined bytes at 2 2 (joined bytes at 1 1 (number-one bytes at refl) (number-one bytes (at + 1) refl))
      (rw e at (joined bytes (at + 2) 1 1 (number-one bytes (at + 2) refl) (number-one bytes (at + 2 + 1) refl)))

  fields : Fields (number_at bytes at 4) (get_or bytes (at + 3) 0) (get_or bytes (at + 2) 0) (get_or bytes (at + 1) 0) (get_or bytes at 0)
  unfolding field_at
  fields = omega (arith, word-is, small at, small (at + 1), small (at + 2), small (at + 3))

  pub bytes_fit : well_formed (number_at bytes at 4)
      ≡ (first_fits (get_or bytes (at + 3) 0) && second_fits (get_or bytes (at + 3) 0) (get_or bytes (at + 2) 0) && third_fits (get_or bytes (at + 3) 0) (get_or bytes (at + 1) 0)
      && minimum_fits smallest_minimum (bit_at (get_or bytes (at + 3) 0) 5) (256 * field_at (get_or bytes (at + 1) 0) 0 2 + get_or bytes at 0))
  unfolding well_formed well_formed_from
  bytes_fit =
      let word = number_at bytes at 4 in
      let f = fields in
      rw (
        lt-ltb word (2 ^ 32) f.small,
        ← f.minimum,
        ← f.stage-T,
        ← f.stage-A,
        ← f.stage-N,
        ← f.cut,
        ← f.transforms,
        ← f.noise,
        ← f.upper,
        ← f.aggregates,
        ← f.lower,
        ← f.digits,
      )
      (reordered (eqb (field_at word 21 2) 0) (eqb (field_at word 13 3) 0) (has_t word || eqb (transforms_of word) 0) (digits_fit (bit_at word 26) (digits_of word))
      (has_a word || eqb (aggregates_of word) 0) (minimum_fits smallest_minimum (has_a word) (minimum_of word)) (noise_fits word))

  pub first-ones : ones (get_or bytes (at + 3) 0 / 16) ≡ stage_count (number_at bytes at 4)
  first-ones =
      let top : get_or bytes (at + 3) 0 / 16 ≡ number_at bytes at 4 / 2 ^ 28 = omega (arith, word-is, small at, small (at + 1), small (at + 2), small (at + 3)) in
      ap ones top ∙ count-is (number_at bytes at 4) fields.small
