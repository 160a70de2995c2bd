-- The label of a new cell, by the label library.
use Rattle.std.specs.Prelude.{ℕ}
use Rattle.label_words.specs.Answers.{LabelVerdict, label, forbidden, refused}

-- what an answer leaves of a label; the label itself where the operation is forbidden, or the library gives no label
abbrev pub label_left : ℕ → LabelVerdict → ℕ
label_left word (label left) = left
label_left word forbidden = word
label_left word (refused number place) = word
