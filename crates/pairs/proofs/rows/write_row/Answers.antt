-- `pairs::rows::write_row` meets its contract. Assumes nothing.
use Rattle.cells.specs.promises.Lent.{work_held}
use Rattle.pairs.proofs.Above.{row-moved}
use Rattle.pairs.proofs.rows.write_row.Goals as goal

pub returns-clause-put : goal.returns-clause-put
returns-clause-put c =
    let a = c.args in
    let sides = c.requires.fit in
    row-moved (work_held a.cells.now) a.sides.left.table.columns a.sides.right.table.columns a.sides.right.key a.at a.other a.to sides.values-room sides.labels-room sides.right_key
    c.requires.columns_bound.0 c.requires.columns_bound.1 c.requires.columns_bound.2 (c.move_cells.ensures.value, (c.move_cells.ensures.values_after, c.move_cells.ensures.labels_after))
    (c.move_cells-2.ensures.value, (c.move_cells-2.ensures.values_after, c.move_cells-2.ensures.labels_after))
    (c.move_cells-3.ensures.value, (c.move_cells-3.ensures.values_after, c.move_cells-3.ensures.labels_after))
