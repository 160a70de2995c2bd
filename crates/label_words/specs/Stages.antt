-- "A label is a chain of at most four stages in falling order H, T, A, N. Zero means clear." (the paper's L)
use Rattle.std.specs.Prelude.{ℕ, ◌+◌, Bool, true, false, cond}
use Rattle.label_words.specs.Word.{has_h, has_t, has_a, has_n}
use Rattle.label_words.specs.declared.Highest.{Highest}
use Rattle.label_words.specs.declared.Highest.TheVariants.{H, T, A, N, Clear}

-- one for a stage that is present
abbrev pub one : Bool → ℕ
one present = cond present 1 0

-- how many stages are present
unfoldable pub stage_count : ℕ → ℕ
stage_count word = one (has_h word) + one (has_t word) + one (has_a word) + one (has_n word)

abbrev pub topmost : Bool → Bool → Bool → Bool → Highest
topmost true t a n = H
topmost false true a n = T
topmost false false true n = A
topmost false false false true = N
topmost false false false false = Clear

-- "the highest stage present"
unfoldable pub highest : ℕ → Highest
highest word = topmost (has_h word) (has_t word) (has_a word) (has_n word)
