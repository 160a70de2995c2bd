-- `mark_reader::mark_of` meets its contract. Assumes nothing.
use mathlib.Core.Path.{ap, ◌∙◌}
use native.Mathlib.Omega.{arith}
use Rattle.plan.specs.Sheets.{own_mark}
use Rattle.value.specs.Pattern.{signed_of, magnitude_of}
use Rattle.value.proofs.Machine.{back_is}
use Rattle.mark_reader.proofs.Marks.{sheet-mark}
use Rattle.mark_reader.proofs.mark_of.Goals as goal

pub returns-then-sheets-eq0 : goal.returns-then-sheets-eq0
unfolding own_mark
returns-then-sheets-eq0 c = rw c.if-sheets-eq0.true

pub returns : goal.returns
returns c =
    let a = c.args in
    c.magnitude.ensures ∙ ap magnitude_of (back_is c.signed.result c.signed.type_inv ∙ c.signed.ensures ∙ ap signed_of c.eight.ensures)
    ∙ sheet-mark a.part.now a.sheets a.columns a.table a.row c.if-sheets-eq0.false (omega arith)
