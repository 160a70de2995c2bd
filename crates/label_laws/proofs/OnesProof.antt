-- The stages of a word are the ones of its top four bits, by a test at each of the sixteen numbers that these can be. Assumes nothing.
use Prim.Native.Nat.{ℕ, ◌+◌, ◌*◌, ◌^◌}
use mathlib.Core.Path.{◌≡◌, sym}
use mathlib.Core.Bool.{Bool}
use lib.Dec.{ltb, leb, lit<, ltb→lt, leb→le}
use Rattle.label_words.specs.Stages.{topmost, stage_count, highest}
use Rattle.label_words.specs.Word.{field_at, bit_at, has_h, has_t, has_a, has_n, stages_of}
use Rattle.label_words.specs.declared.Highest.{Highest}
use Rattle.label_words.proofs.Below.{below}
use Rattle.label_words.proofs.Packed.{bit-of-field}
use Rattle.label_words.proofs.Words.{ones-of-four, field_lt}
use Rattle.label_laws.specs.Laws.{rank}
use Rattle.label_laws.specs.Ones.{StagesAreOnes}

-- the highest stage of four bits
abbrev top : ℕ → Highest
top s = topmost (bit_at s 3) (bit_at s 2) (bit_at s 1) (bit_at s 0)

none : ℕ → Bool
none s = ltb s (2 ^ rank (top s))

some : ℕ → Bool
some s = leb (2 ^ rank (top s)) (2 * s + 1)

pub stages-are-ones : (word : ℕ) → StagesAreOnes word
unfolding none some stage_count highest field_at
stages-are-ones word =
    let s = stages_of word in
    let h : has_h word ≡ bit_at s 3 = sym (bit-of-field word 28 4 3 (lit< tt)) in
    let t : has_t word ≡ bit_at s 2 = sym (bit-of-field word 28 4 2 (lit< tt)) in
    let a : has_a word ≡ bit_at s 1 = sym (bit-of-field word 28 4 1 (lit< tt)) in
    let n : has_n word ≡ bit_at s 0 = sym (bit-of-field word 28 4 0 (lit< tt)) in
    record {
      h = h;
      t = t;
      a = a;
      n = n;
      many = rw (h, t, a, n) (sym (ones-of-four s (field_lt word 28 4)));
      none_above = rw (h, t, a, n) (ltb→lt _ _ (below 16 none tt s (field_lt word 28 4)));
      one-there = rw (h, t, a, n) (leb→le _ _ (below 16 some tt s (field_lt word 28 4)));
    }
