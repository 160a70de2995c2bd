-- `pairs::rows::join_all` meets its contract. The rows of the first left rows are made, and their marks are written. Assumes nothing.
use Rattle.std.specs.Prelude.{Ok}
use Rattle.cells.specs.promises.Lent.{work_held, memory_held, SameCells}
use Rattle.cells.specs.promises.Written.{Written}
use Rattle.memory.specs.promises.Stack.{last_marks}
use Rattle.pairs.proofs.Marks.{marks_of}
use Rattle.pairs.proofs.Turns.{Lefts}
use Rattle.pairs.proofs.rows.join_all.Given as goal

abbrev pub invariant-loop-row : goal.invariant-loop-row
invariant-loop-row l =
    Lefts l.sides.left l.sides.right (work_held l.initial.cells) l.row (Ok l.made) (work_held l.cells)
    × Written l.initial.marks last_marks (marks_of (memory_held l.initial.cells l.initial.marks) l.sides.left l.sides.right l.row) l.marks
    × SameCells l.initial.cells l.cells
