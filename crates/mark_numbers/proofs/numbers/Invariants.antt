-- `mark_numbers::numbers` meets its contract. The loop: the rows passed have their numbers, and each hash value leads to one of them. Assumes nothing.
use mathlib.Core.Path.{◌≡◌}
use Rattle.mark_numbers.specs.promises.Numbers.{numbers_upto}
use Rattle.mark_numbers.proofs.Buckets.{Buckets}
use Rattle.mark_numbers.proofs.numbers.Given as goal

abbrev pub invariant-loop-row : goal.invariant-loop-row
invariant-loop-row l = (l.found ≡ numbers_upto l.marks l.row) × Buckets l.marks l.row l.last
