-- `extension::extending::extend` meets its contract. Assumes nothing.
use mathlib.Core.Path.{sym, ◌∙◌}
use Rattle.cells.specs.promises.Lent.{work_held}
use Rattle.cells.proofs.CellLaws.{values_moved, labels-moved}
use Rattle.extension.specs.promises.Rows.{made_cell}
use Rattle.extension.proofs.MakingRows.{extendable, table-values, table-labels, table-down}
use Rattle.extension.proofs.extending.extend.Goals as goal

pub make_rows-requires : goal.make_rows-requires
make_rows-requires g c = let t = extendable c.args.top _ _ _ (sym c.extends.ensures ∙ c.if-not-extends.false) in record { inside = (t.inside, t.narrow); has_column = t.has-column }

pub returns-clause-made : goal.returns-clause-made
returns-clause-made g c =
    let a = c.args in
    let t = extendable c.args.top _ _ _ (sym c.extends.ensures ∙ c.if-not-extends.false) in
    let w = work_held c.make_rows.new.cells in
    let new = made_cell (g.N.NewCell.new_value a.new.now) (g.N.NewCell.new_label a.new.now) a.column in
    let v = table-values new t.inside t.narrow c.make_rows.ensures.done in
    let l = table-labels new t.inside t.narrow c.make_rows.ensures.done in
    let m = c.move_cells.ensures in
    λ _. rw (values_moved w v l m.value m.values_after m.labels_after, labels-moved w v l m.value m.values_after m.labels_after) (table-down new t.inside t.narrow c.make_rows.ensures.done)
