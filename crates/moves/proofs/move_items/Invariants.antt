-- `moves::move_items`: the elements copied so far stand at `to`. Assumes nothing.
use lib.ListN.{length, take, drop}
use Rattle.cells.specs.promises.Written.{Written}
use Rattle.cells.proofs.Written.{Moves}
use Rattle.moves.proofs.move_items.Given as goal

abbrev pub invariant-loop-i : goal.invariant-loop-i
invariant-loop-i g l = Moves l.from l.to l.count (length l.initial.items) × Written l.initial.items l.to (take l.i (drop l.from l.initial.items)) l.items
