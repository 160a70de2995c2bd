-- How many words of a list are labels.
use Rattle.std.specs.Prelude.{ℕ, ◌+◌, cond, List, [], ◌∷◌, ltb, length}
use Rattle.label_words.specs.Stages.{one}
use Rattle.label_words.specs.WellFormed.{well_formed}

abbrev pub labels_in : List ℕ → ℕ
labels_in [] = 0
labels_in (word ∷ rest) = one (well_formed word) + labels_in rest

-- 0 where there are more than 8,192
abbrev pub labels_among : List ℕ → ℕ
labels_among words = cond (ltb 8192 (length words)) 0 (labels_in words)
