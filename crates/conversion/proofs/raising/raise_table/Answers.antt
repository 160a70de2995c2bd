-- `conversion::raising::raise_table` meets its contract. Assumes nothing.
use native.Mathlib.Nat.{zero-add}
use native.Mathlib.Numerals.{add-one}
use native.Mathlib.Omega.{arith}
use Rattle.conversion.proofs.Ones.{ones-more, ones-few, both-raised, new-length, offsets-length}
use Rattle.conversion.proofs.raising.raise_table.Goals as goal

-- a cell's label stands in the part, and there is room for its offset
pub raise_label-found-requires : goal.raise_label-found-requires
raise_label-found-requires c =
    let a = c.args in
    let cells = c.cell_count-cell-end.ensures in
    let few = ones-few a.table.now a.at 0 c.loop-cell.cell in
    let new = new-length c.loop-cell.invariant in
    let offsets = offsets-length c.loop-cell.invariant in
    (omega arith, omega arith, omega arith, omega arith)

pub loop-cell-preserved : goal.loop-cell-preserved
loop-cell-preserved c =
    let a = c.args in
    rw (add-one c.loop-cell.cell, ones-more a.table.now a.at 0 c.loop-cell.cell, zero-add c.loop-cell.cell)
    (both-raised c.loop-cell.invariant c.raise_label-found.ensures)
