-- `extension::extending::new_cell` meets its contract. Assumes nothing.
use Prim.Native.Nat.{◌+◌, ◌-◌, ◌*◌, ◌≤◌}
use mathlib.Core.Path.{◌≡◌, sym, ap₂, ◌∙◌}
use native.Mathlib.Nat.{mul-le-mul_right}
use native.Mathlib.Omega.{arith}
use lib.IntN.{pos}
use lib.ListN.{get_or}
use mir.Syntax.{w64}
use mir.Facts.{to_z-of_z}
use borrow.Author.Rules.{sfits_of, rules}
use Rattle.cells.specs.promises.Lent.{work_held}
use Rattle.cells.proofs.CellLaws.{cell}
use Rattle.extension.proofs.RowExtended.{made-in}
use Rattle.extension.proofs.extending.new_cell.Goals as goal

pub returns : goal.returns
returns g c =
    let a = c.args in
    let n = g.N.NewCell in
    let r = c.requires.inside in
    let from = a.top.at + a.row * a.top.columns in
    let reach : a.row * a.top.columns + a.top.columns ≤ a.top.rows * a.top.columns = omega (arith, mul-le-mul_right a.top.columns c.requires.has_row.1) in
    let part : (from + a.top.columns) - from ≡ a.top.columns = omega arith in
    let value = rw (to_z-of_z {w = w64} {z = get_or a.cells.now.values.now (from + a.column) (pos 0)} (search rules), part) at c.value-value.ensures in
    rw (to_z-of_z (sfits_of c.value-value.type_inv)) (made-in (work_held a.cells.now) from a.top.columns (omega (arith, reach, r)) (omega (arith, reach, r)) (n.new_value a.new.now) (n.new_label a.new.now) a.row a.column c.requires.has_row.0
    ∙ sym (ap₂ cell value c.label-label.ensures))
