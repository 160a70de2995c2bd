-- There was room for as many numbers as were counted.
use Rattle.std.proofs.Common.{length, ◌≤◌}
use Rattle.noise_trials.proofs.draws.read.Given as goal

abbrev pub invariant-loop-byte : goal.invariant-loop-byte
invariant-loop-byte l = l.count ≤ length l.numbers
