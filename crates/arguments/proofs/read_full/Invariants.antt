-- What was read stands at the front of the bytes, and is what the reader has given.
use Rattle.std.proofs.Common.{◌≤◌, ◌-◌, length, take}
use Rattle.std.specs.Io.KnownBytes.{Consumes}
use Rattle.arguments.proofs.read_full.Given as goal

abbrev pub invariant-loop-read : goal.invariant-loop-read
invariant-loop-read g l =
    (l.read ≤ length l.bytes) × Consumes (g.R.Read.remaining l.initial.reader) (g.R.Read.remaining l.reader) (take l.read l.bytes)

-- the bytes left
abbrev pub decreases-loop-read : goal.decreases-loop-read
decreases-loop-read g l = length l.initial.bytes - l.read
