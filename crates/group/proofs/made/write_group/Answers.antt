-- `group::made::write_group` meets its contract: the cell after the keys is the group's aggregate. Assumes nothing.
use mathlib.Core.Path.{◌≡◌, ◌∙◌}
use lib.ListN.{length}
use borrow.Author.Rules.{rules}
use Rattle.group.specs.promises.Members.{ColumnInside, Allowed, members, rows_from, grouped_rows}
use Rattle.group.specs.promises.Members.{column_values, column_labels}
use Rattle.cells.specs.promises.Lent.{work_held}
use Rattle.cells.specs.promises.Work.{cells_in}
use Rattle.plan.specs.Group.{aggregate_value, composed_after}
use Rattle.plan.specs.Numbers.{aggregate_code}
use Rattle.plan.specs.Table.{Each}
use Rattle.group.proofs.Aggregating.{aggregate-is}
use Rattle.group.proofs.Choosing.{rows-left}
use Rattle.plan.proofs.SenseEach.{each-drop}
use Rattle.value.proofs.Machine.{back_is}
use Rattle.group.proofs.made.write_group.Goals as goal

pub returns-clause-done : goal.returns-clause-done
returns-clause-done c = λ leaders chain e.
    let a = c.args in
    let p = c.requires in
    let M = cells_in (work_held a.cells.now) in
    let in-values : ColumnInside a.g (length a.cells.now.values.now) = search rules in
    let in-labels : ColumnInside a.g (length a.cells.now.labels.now) = search rules in
    let sum = c.group_values-all.ensures leaders a.cells.now.labels.now chain e in-labels in
    let group = members a.g M leaders a.led.row in
    let allowed : Each (Allowed a.g.column) (rows_from a.g M a.led.row) = rw rows-left (each-drop (Allowed a.g.column) a.led.row (grouped_rows a.g M) p.each) in
    let value : c.value_of-value.result ≡ aggregate_value a.g.aggregate (column_values a.g.column group)
    = c.value_of-value.ensures ∙ aggregate-is a.g M leaders a.led.row c.group_values-all.result p.source.few-rows p.row_lt_rows.0 sum in
    let label : c.group_label-label.result ≡ composed_after (aggregate_code a.g.aggregate) a.sheets 0 (column_labels a.g.column group)
    = c.group_label-label.ensures leaders a.cells.now.values.now chain e in-values allowed in
    rw (back_is c.value_of-value.result c.value_of-value.type_inv, value, label) at c.write_row.ensures.done
