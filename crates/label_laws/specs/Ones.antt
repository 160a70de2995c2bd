-- #104: "For every word the stages present are shown to be the ones in bits 31 to 28." Proved.
use Rattle.std.specs.Prelude.{ℕ, ◌+◌, ◌*◌, ◌^◌, ◌≤◌, ◌<◌, ◌≡◌}
use Rattle.std.specs.Int.Count.{ones}
use Rattle.label_laws.specs.Laws.{rank}
use Rattle.label_words.specs.Stages.{stage_count, highest}
use Rattle.label_words.specs.Word.{bit_at, has_h, has_t, has_a, has_n, stages_of}

-- which stages a word has and how many, and that the highest is the highest of them: the number that bits 31 to 28 make has as many bits as
-- that stage's rank says, so that it has a one there and none above
pub record StagesAreOnes (word : ℕ) : Type 0 where
  pub h : has_h word ≡ bit_at (stages_of word) 3
  pub t : has_t word ≡ bit_at (stages_of word) 2
  pub a : has_a word ≡ bit_at (stages_of word) 1
  pub n : has_n word ≡ bit_at (stages_of word) 0
  pub many : stage_count word ≡ ones (stages_of word)
  pub none_above : stages_of word < 2 ^ rank (highest word)
  pub one-there : 2 ^ rank (highest word) ≤ 2 * stages_of word + 1
