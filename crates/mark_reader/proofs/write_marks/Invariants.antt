-- `mark_reader::write_marks` meets its contract. The loop: the marks of the rows passed are written. Assumes nothing.
use mathlib.Core.Path.{◌≡◌}
use mathlib.Core.List.{◌++◌}
use lib.ListN.{drop}
use Rattle.mark_reader.specs.promises.Marks.{first_marks}
use Rattle.mark_reader.proofs.write_marks.Given as goal

abbrev pub invariant-loop-row : goal.invariant-loop-row
invariant-loop-row l = l.marks ≡ first_marks l.part l.table l.row ++ drop l.row l.initial.marks
