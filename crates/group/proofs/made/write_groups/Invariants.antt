-- `group::made::write_groups` meets its contract. The loop: the groups of the leaders passed are written. Assumes nothing.
use Prim.Native.Nat.{◌+◌, ◌*◌, ◌≤◌}
use mathlib.Core.Path.{◌≡◌}
use Rattle.cells.specs.promises.Lent.{SameCells, memory_held}
use Rattle.memory.specs.promises.Stack.{last_slot}
use Rattle.group.proofs.Making.{Making}
use Rattle.group.proofs.made.write_groups.Given as goal

abbrev pub invariant-loop-row : goal.invariant-loop-row
invariant-loop-row l =
    (l.count ≤ l.row) × (l.to ≡ last_slot + l.count * l.fn.g.width)
    × Making l.fn.g (memory_held l.initial.cells l.initial.marks) (memory_held l.cells l.marks) l.count l.row
    × SameCells l.initial.cells l.cells
