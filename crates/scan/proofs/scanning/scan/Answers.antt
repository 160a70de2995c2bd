-- `scan::scanning::scan` meets its contract. Assumes nothing.
use Prim.Native.Nat.{◌+◌}
use mathlib.Core.Path.{◌≡◌, sym, ◌∙◌}
use mathlib.Core.Bool.{true}
use native.Mathlib.Omega.{arith}
use lib.ListN.{length}
use Rattle.cells.specs.promises.Work.{memory_of}
use Rattle.layout.specs.Layout.{part_of}
use Rattle.table_part.specs.promises.Shape.{shape_of}
use Rattle.scan.specs.promises.Scanning.{scan_fits}
use Rattle.scan.proofs.ScanMeaning.{ScanFits, scan-parts, scan-answer, scan-after, scan-marks, scan-made}
use Rattle.scan.proofs.scanning.scan.Goals as goal
use Rattle.scan.proofs.scanning.scan.Goals.{Else-not-scan_fits}

fit : (c : Else-not-scan_fits) → let a = c.args in scan_fits a.container.now a.table (length a.cells.now.values.now) (length a.cells.now.labels.now) (length a.marks.now) a.stack ≡ true
fit c = sym c.scan_fits.ensures ∙ c.if-not-scan_fits.false

parts : (c : Else-not-scan_fits) → let a = c.args in ScanFits a.container.now a.table (length a.cells.now.values.now) (length a.cells.now.labels.now) (length a.marks.now) a.stack
parts c =
    let a = c.args in
    scan-parts a.container.now a.table _ _ _ a.stack (λ i. omega (arith, c.type_inv.container i)) (fit c)

pub overflow_add-table : goal.overflow_add-table
overflow_add-table c = omega (arith, (parts c).numbered)

pub overflow_mul-slot : goal.overflow_mul-slot
overflow_mul-slot c = omega (arith, (parts (goal.at.overflow_mul-slot c).Else-not-scan_fits).room-left)

pub overflow_mul-slot-2 : goal.overflow_mul-slot-2
overflow_mul-slot-2 c = omega (arith, (parts (goal.at.overflow_mul-slot-2 c).Else-not-scan_fits).room-left)

pub returns-in_err-shape-clause-done : goal.returns-in_err-shape-clause-done
returns-in_err-shape-clause-done c =
    let a = c.args in
    let read = rw c.part-part.ensures at c.read_cells.ensures.done in
    let m = memory_of a.cells.now.values.now a.cells.now.labels.now a.marks.now in
    let answered = scan-answer a.container.now a.table m a.stack (parts (goal.at.returns-in_err-shape-clause-done c).Else-not-scan_fits) read in
    grind (arith, answered, c.ok_or.ensures.ok_part, c.in_err-shape.was)

pub returns-clause-done : goal.returns-clause-done
returns-clause-done c =
    let a = c.args in
    let m = memory_of a.cells.now.values.now a.cells.now.labels.now a.marks.now in
    let f = parts (goal.at.returns-clause-done c).Else-not-scan_fits in
    let part-is = c.part-part.ensures in
    let read = rw part-is at c.read_cells.ensures.done in
    let marks = rw part-is at c.read_marks.ensures in
    let answered = scan-answer a.container.now a.table m a.stack f read in
    let shaped : c.in_ok-shape.shape ≡ shape_of (part_of a.container.now (a.table + 1)) = grind (arith, answered, c.ok_or.ensures.ok_part, c.in_ok-shape.was) in
    scan-made a.container.now a.table m a.stack f (fit (goal.at.returns-clause-done c).Else-not-scan_fits) shaped c.with_table.ensures
    (scan-after a.container.now a.table m a.stack f read) (scan-marks a.container.now a.table m a.stack f marks.value marks.marks_after)
