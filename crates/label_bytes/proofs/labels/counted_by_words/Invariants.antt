-- `label_bytes::labels::counted_by_words` meets its contract. Assumes nothing.
use Rattle.std.proofs.Common.{◌≡◌, ◌≤◌, take, count_by}
use Rattle.label_words.specs.WellFormed.{well_formed}
use Rattle.label_bytes.proofs.labels.counted_by_words.Given as goal

abbrev pub invariant-loop-word : goal.invariant-loop-word
invariant-loop-word l = (l.count ≤ l.word-index) × (l.count ≡ count_by (λ word. well_formed word) (take l.word-index l.words))
