-- `label_bytes::labels::counted_by_bytes` meets its contract. Assumes nothing.
use Rattle.std.proofs.Common.{◌≡◌, ◌≤◌, take, count_by}
use Rattle.label_words.specs.WellFormed.{well_formed}
use Rattle.little_endian.specs.Bytes.{number_at}
use Rattle.label_bytes.proofs.labels.counted_by_bytes.Given as goal

abbrev pub invariant-loop-label : goal.invariant-loop-label
invariant-loop-label l = (l.count ≤ l.label-index) × (l.count ≡ count_by (λ label. well_formed (number_at label 0 4)) (take l.label-index l.labels))
