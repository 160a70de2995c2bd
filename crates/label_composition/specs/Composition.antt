-- "Composition of two labels". The paper's Figure 4: JBOTL, JBOTR, LEFT, RIGHT and MERGE; "here MERGE decides" for equal stages.
use Rattle.std.specs.Prelude.{ℕ, max, Bool, true, false, cond, ◌&&◌}
use Rattle.std.specs.Int.Bits.{bit_and, bit_or}
use Rattle.label_words.specs.Answers.{LabelVerdict, label, refused}
use Rattle.label_words.specs.WellFormed.{well_formed}
use Rattle.label_words.specs.Word.{bit_at, has_t, has_a, has_n, stages_of, transforms_of, digits_of, aggregates_of, minimum_of, noise_of, packed}

-- A field of a stage that the left, the right, both or none of two labels have. "If one has it, its fields are kept" (LEFT, RIGHT);
-- if both have it, the field is `both` (MERGE).
abbrev pub merged : Bool → Bool → ℕ → ℕ → ℕ → ℕ
merged true true both left right = both
merged true false both left right = left
merged false true both left right = right
merged false false both left right = 0

-- "digits become 0 if cut is lost"
abbrev pub digits_with : ℕ → ℕ → ℕ
digits_with transforms digits = cond (bit_at transforms 2) digits 0

module _ (a b : ℕ) where
  -- "If both have it, allowed bits are intersected and the larger minimum and the larger digits are taken"
  unfoldable pub transforms_both : ℕ
  transforms_both = merged (has_t a) (has_t b) (bit_and (transforms_of a) (transforms_of b)) (transforms_of a) (transforms_of b)

  unfoldable pub digits_both : ℕ
  digits_both =
      merged (has_t a) (has_t b) (digits_with (bit_and (transforms_of a) (transforms_of b)) (max (digits_of a) (digits_of b))) (digits_of a) (digits_of b)

  unfoldable pub aggregates_both : ℕ
  aggregates_both = merged (has_a a) (has_a b) (bit_and (aggregates_of a) (aggregates_of b)) (aggregates_of a) (aggregates_of b)

  unfoldable pub minimum_both : ℕ
  minimum_both = merged (has_a a) (has_a b) (max (minimum_of a) (minimum_of b)) (minimum_of a) (minimum_of b)

  unfoldable pub noise_both : ℕ
  noise_both = merged (has_n a) (has_n b) (bit_and (noise_of a) (noise_of b)) (noise_of a) (noise_of b)

  -- "a stage is present if either has it"
  unfoldable pub composed : ℕ
  composed = packed (bit_or (stages_of a) (stages_of b)) transforms_both noise_both aggregates_both digits_both minimum_both

  -- the library's answer, for every two words
  unfoldable pub compose_answer : LabelVerdict
  compose_answer = cond (well_formed a && well_formed b) (label composed) (refused 15 0)
