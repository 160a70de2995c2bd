-- `table_reader::reader::copy_cells` meets its contract. Assumes nothing.
use mathlib.Core.Path.{◌≡◌, ◌∙◌}
use native.Mathlib.Omega.{arith}
use Rattle.table_reader.proofs.CellsRead.{copy_more, copy-all}
use Rattle.value.proofs.Machine.{back_is}
use Rattle.table_reader.proofs.reader.copy_cells.Goals as goal

pub loop-cell-preserved : goal.loop-cell-preserved
loop-cell-preserved c =
    let a = c.args in
    let i = c.loop-cell.invariant in
    let k = c.loop-cell.cell in
    let h = c.loop-cell-test.true in (
      copy_more (λ cell. cell.value) a.table.now a.count a.values.now _ a.at k _ c.requires.1 h i.0 (back_is c.value_at.result c.value_at.type_inv ∙ c.value_at.ensures),
      copy_more (λ cell. cell.label) a.table.now a.count a.labels.now _ a.at k _ c.requires.2 h i.1 c.label_at.ensures,
    )

pub returns : goal.returns
returns c =
    let a = c.args in
    let i = c.loop-cell.invariant in
    let e : c.loop-cell.cell ≡ a.count = omega arith in
    record {
      values_after = i.0 ∙ copy-all (λ cell. cell.value) a.table.now a.count a.values.now a.at _ e;
      labels_after = i.1 ∙ copy-all (λ cell. cell.label) a.table.now a.count a.labels.now a.at _ e;
    }
