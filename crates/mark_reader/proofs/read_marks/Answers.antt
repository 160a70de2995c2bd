-- `mark_reader::read_marks` meets its contract. Assumes nothing.
use Prim.Native.Nat.{◌+◌, ◌≤◌, ◌<◌}
use mathlib.Core.Path.{◌≡◌, ap}
use native.Mathlib.Omega.{arith}
use lib.ListN.{length}
use Rattle.std.proofs.lemmas.Grind.{common_steps}
use Rattle.table_part.specs.TablePart.{row_count}
use Rattle.table_part.specs.promises.Shape.{shape_of}
use Rattle.mark_reader.proofs.Marks.{few_rows, marks_put}
use Rattle.mark_reader.proofs.read_marks.Goals as goal

pub write_marks-requires : goal.write_marks-requires
unfolding shape_of
write_marks-requires c =
    let few : c.shape_of-columns.result.rows < 65536 = rw c.shape_of-columns.ensures (few_rows c.args.part.now (λ i. omega (arith, c.type_inv.part i))) in
    grind (arith, common_steps, few, c.shape_of-columns.ensures)

pub returns-clause-marks_after : goal.returns-clause-marks_after
unfolding shape_of
returns-clause-marks_after c =
    let a = c.args in
    let shape = c.shape_of-columns in
    let rows : shape.result.rows ≡ row_count a.part.now = ap (λ s. s.rows) shape.ensures in
    let room : a.at + shape.result.rows ≤ length a.marks.now = grind (arith, common_steps) in
    marks_put a.part.now a.table a.at shape.result.rows a.marks.now _ rows room c.write_marks.ensures
