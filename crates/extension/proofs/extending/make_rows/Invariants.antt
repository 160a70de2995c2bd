-- `extension::extending::make_rows` meets its contract. The loop's invariant is `Making`. Assumes nothing.
use Rattle.cells.specs.promises.Lent.{work_held, SameCells}
use Rattle.extension.specs.promises.Rows.{made_cell}
use Rattle.extension.proofs.MakingRows.{Making}
use Rattle.extension.proofs.extending.make_rows.Given as goal

abbrev pub invariant-loop-row : goal.invariant-loop-row
invariant-loop-row g l =
    let n = g.N.NewCell in
    Making (made_cell (n.new_value l.new) (n.new_label l.new) l.column) l.top (work_held l.initial.cells) (work_held l.cells) l.row × SameCells l.initial.cells l.cells
