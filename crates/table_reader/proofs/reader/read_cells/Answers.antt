-- `table_reader::reader::read_cells` meets its contract. Assumes nothing.
use Prim.Native.Nat.{◌+◌, ◌*◌, ◌≤◌}
use mathlib.Core.Path.{◌≡◌, sym, ◌∙◌}
use mathlib.Core.Bool.{◌&&◌}
use lib.Dec.{leb}
use lib.ListN.{length}
use Rattle.table_reader.specs.promises.Reading.{readable}
use Rattle.table_reader.proofs.CellsRead.{tests, rooms, not-read, all_read}
use Rattle.table_reader.proofs.reader.read_cells.Goals as goal
use Rattle.table_reader.proofs.reader.read_cells.Goals.{After-within-2, Else-not-fits}

-- the three tests together
fitting : (c : After-within-2) → (leb (4 + 12 * c.cell_count-count.result) (length c.args.table.now) && c.within.result && c.within-2.result) ≡ readable c.args.table.now (length c.args.cells.now.values.now) (length c.args.cells.now.labels.now) c.args.at
fitting c =
    let a = c.args in
    tests a.table.now a.cells.now.values.now a.cells.now.labels.now a.at c.cell_count-count.result c.cell_count-count.ensures c.within.result c.within-2.result c.within.ensures
    c.within-2.ensures

-- and what they say where they pass
fitted : (c : Else-not-fits) → (4 + 12 * c.cell_count-count.result ≤ length c.args.table.now) × (c.args.at + c.cell_count-count.result ≤ length c.args.cells.now.values.now) × (c.args.at + c.cell_count-count.result ≤ length c.args.cells.now.labels.now)
fitted c =
    let a = c.args in
    rooms a.table.now a.cells.now.values.now a.cells.now.labels.now a.at c.cell_count-count.result c.cell_count-count.ensures c.within.result c.within-2.result c.within.ensures c.within-2.ensures
    (c.if-not-fits.false)

pub returns-then-not-fits-clause-done : goal.returns-then-not-fits-clause-done
returns-then-not-fits-clause-done c =
    let a = c.args in
    not-read a.table.now a.cells.now.values.now a.cells.now.labels.now a.at (sym (fitting (goal.at.returns-then-not-fits-clause-done c).After-within-2) ∙ c.if-not-fits.true)

pub copy_cells-requires : goal.copy_cells-requires
copy_cells-requires c = fitted (goal.at.copy_cells-requires c).Else-not-fits

pub returns-clause-done : goal.returns-clause-done
returns-clause-done c =
    let a = c.args in
    let n = c.cell_count-count.ensures in
    let w = c.copy_cells.ensures in
    let t = sym (fitting (goal.at.returns-clause-done c).After-within-2) ∙ c.if-not-fits.false in
    all_read a.table.now a.cells.now.values.now a.cells.now.labels.now a.at t c.shape_of.result _ _ c.shape_of.ensures (rw n at w.values_after)
    (rw n at w.labels_after)
