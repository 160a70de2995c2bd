-- `extension::extending::make_row` meets its contract. Assumes nothing.
use Prim.Native.Nat.{◌+◌, ◌*◌}
use native.Mathlib.Omega.{arith}
use lib.ListN.{length}
use mir.Syntax.{w64}
use mir.Facts.{to_z-of_z}
use borrow.Author.Rules.{rules}
use Rattle.cells.specs.promises.Lent.{work_held}
use Rattle.cells.proofs.CellLaws.{values_moved, labels-moved}
use Rattle.cells.proofs.Written.{Moves, up}
use Rattle.extension.proofs.MakingRows.{places}
use Rattle.extension.proofs.RowExtended.{row-made}
use Rattle.extension.proofs.extending.make_row.Goals as goal

pub returns-clause-done : goal.returns-clause-done
returns-clause-done g c =
    let a = c.args in
    let r = c.requires.inside.0 in
    let k = places r c.requires.inside.1 c.requires.has_row.1 in
    let w = work_held a.cells.now in
    let from = a.top.at + a.row * a.top.columns in
    let to = 6144 + a.row * (a.top.columns + 1) in
    let v : Moves from to a.top.columns (length a.cells.now.values.now) = up (omega (arith, k)) (omega (arith, k, r)) in
    let l : Moves from to a.top.columns (length a.cells.now.labels.now) = up (omega (arith, k)) (omega (arith, k, r)) in
    let e = c.move_cells.ensures in
    rw (to_z-of_z {w = w64} {z = c.new_cell-value.result.0} (search rules), values_moved w v l e.value e.values_after e.labels_after, labels-moved w v l e.value e.values_after e.labels_after)
    (row-made w from a.top.columns (omega (arith, k, r)) (omega (arith, k, r)) to _ _ _ (omega (arith, k)) (omega (arith, k)) r.values-room r.labels-room c.new_cell-value.ensures)
