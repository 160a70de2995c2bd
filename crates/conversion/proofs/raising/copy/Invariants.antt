-- The bytes copied so far stand at the start. Assumes nothing.
use mathlib.Core.Path.{◌≡◌}
use mathlib.Core.List.{◌++◌}
use lib.ListN.{length, take, drop}
use Rattle.conversion.proofs.raising.copy.Given as goal

abbrev pub invariant-loop-i : goal.invariant-loop-i
invariant-loop-i l = (length l.new ≡ length l.initial.new) × (l.new ≡ take l.i l.bytes ++ drop l.i l.initial.new)
