-- `conversion::raising::raise_label` meets its contract. Assumes nothing.
use Prim.Native.Nat.{ℕ}
use mathlib.Core.Path.{◌≡◌, sym, ap, ◌∙◌}
use lib.Dec.{eqb}
use borrow.Author.Tests.{ne_eqb, eq-eqb}
use Rattle.conversion.specs.Conversion.{has_one}
use Rattle.label_words.specs.Word.{minimum_of}
use Rattle.table_part.specs.TablePart.{label_of}
use Rattle.conversion.proofs.Ones.{not-one, is_one}
use Rattle.conversion.proofs.raising.raise_label.Goals as goal
use Rattle.conversion.proofs.raising.raise_label.Goals.{After-field}

-- what is tested is the minimum of the cell's label
tested : (c : After-field) → let a = c.args in eqb c.field.result 1 ≡ has_one (label_of a.table.now a.cell)
tested c = ap (λ (m : ℕ). eqb m 1) (c.field.ensures ∙ ap minimum_of c.four.ensures)

pub returns-then-field-ne1 : goal.returns-then-field-ne1
returns-then-field-ne1 c =
    let a = c.args in
    not-one a.table.now a.at a.cell (sym (tested (goal.at.returns-then-field-ne1 c).After-field) ∙ ne_eqb _ 1 c.if-field-ne1.true)

pub returns : goal.returns
returns c =
    let a = c.args in
    is_one a.table.now a.at a.cell (sym (tested (goal.at.returns c).After-field) ∙ eq-eqb _ 1 c.if-field-ne1.false)
