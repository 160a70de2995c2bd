-- Labels counted, of words and of four bytes each. Assumes nothing.
use Prim.Native.Nat.{ℕ, zero, suc, ◌+◌, ◌/◌}
use mathlib.Core.Path.{◌≡◌, refl, sym, ap, ap₂, ◌∙◌}
use mathlib.Core.Bool.{Bool, true, false, cond}
use mathlib.Core.List.{List, ◌∷◌, map}
use native.Mathlib.Omega.{arith}
use lib.ListN.{length, take, drop}
use Rattle.std.specs.List.{count_by, sum_by}
use Rattle.std.specs.Simd.{first_chunks}
use Rattle.std.proofs.lemmas.List.{take-take, take-map}
use Rattle.std.proofs.lemmas.List.Recursion.{is_count_by, is_sum_by}
use Rattle.label_words.specs.Stages.{one, stage_count}
use Rattle.label_words.specs.WellFormed.{well_formed}
use Rattle.little_endian.specs.Bytes.{little_endian, number_at}
use Rattle.plan.specs.Trace.{stages_in}
use Rattle.label_bytes.specs.Labels.{labels_in}
use Rattle.label_bytes.specs.Words.{words_from, words_of}

one_more : (test : Bool) (n : ℕ) → one test + n ≡ cond test (1 + n) n
one_more true n = refl
one_more false n = omega arith

pub counted : (words : List ℕ) → labels_in words ≡ count_by (λ word. well_formed word) words
counted words = is_count_by labels_in (λ word. well_formed word) refl (λ word rest. one_more (well_formed word) (labels_in rest)) words

-- the word of a chunk of four bytes
word : List ℕ → ℕ
word label = number_at label 0 4

words-chunks : (n : ℕ) (bytes : List ℕ) → words_from n bytes ≡ map word (first_chunks 4 n bytes)
unfolding word number_at
words-chunks zero bytes = refl
words-chunks (suc n) bytes = ap₂ ◌∷◌ (ap little_endian (sym (take-take 4 4 bytes (omega arith)))) (words-chunks n (drop 4 bytes))

-- the words of the first chunks of four bytes
pub counted_chunks : (n : ℕ) (bytes : List ℕ) → labels_in (words_from n bytes) ≡ count_by (λ label. well_formed (number_at label 0 4)) (first_chunks 4 n bytes)
unfolding word
counted_chunks n bytes =
    ap labels_in (words-chunks n bytes)
    ∙ is_count_by (λ (labels : List (List ℕ)). labels_in (map word labels)) (λ label. well_formed (number_at label 0 4)) refl (λ label rest. one_more (well_formed (word label)) (labels_in (map word rest))) (first_chunks 4 n bytes)

-- the stages of the first words are those of the first chunks of four bytes
pub summed_chunks : (count : ℕ) (bytes : List ℕ) → stages_in (take count (words_of bytes)) ≡ sum_by (λ label. stage_count (number_at label 0 4)) (take count (first_chunks 4 (length bytes / 4) bytes))
unfolding words_of word
summed_chunks count bytes =
    let labels = first_chunks 4 (length bytes / 4) bytes in
    ap (λ (words : List ℕ). stages_in (take count words)) (words-chunks (length bytes / 4) bytes) ∙ ap stages_in (take-map word count labels)
    ∙ is_sum_by (λ (labels : List (List ℕ)). stages_in (map word labels)) (λ label. stage_count (number_at label 0 4)) refl (λ label rest. refl) (take count labels)
