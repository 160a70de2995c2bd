-- `step_trials::reading::number` meets its contract. Assumes nothing.
use Rattle.std.proofs.Common.{◌≡◌, ◌<◌, ◌^◌, length, drop}
use Rattle.std.specs.Prelude.{Some}
use Rattle.step_trials.specs.Words.{with_digits}
use Rattle.step_trials.proofs.reading.number.Given as goal

abbrev pub invariant-loop-byte : goal.invariant-loop-byte
invariant-loop-byte l =
    (0 < length l.word) × (l.number < 2 ^ 48)
    × (with_digits l.base (Some l.number) (drop l.byte-index l.word) ≡ with_digits l.base (Some 0) l.word)
