-- `table_check::checking::check_cells` meets its contract. Assumes nothing.
use mathlib.Core.Path.{sym, ◌∙◌}
use Rattle.little_endian.proofs.Numbers.{of_part}
use Rattle.table_check.proofs.CellsLeft.{keep, wrong-value, wrong-label}
use Rattle.table_check.proofs.checking.check_cells.Goals as goal

pub returns-then-not-value_fits : goal.returns-then-not-value_fits
returns-then-not-value_fits c =
    wrong-value c.loop-cell.invariant c.loop-cell-test.true (sym (rw of_part at c.value_fits.ensures) ∙ c.if-not-value_fits.true)

pub returns-then-not-label_fits : goal.returns-then-not-label_fits
returns-then-not-label_fits c =
    wrong-label c.loop-cell.invariant c.loop-cell-test.true
    (sym (rw of_part at c.value_fits.ensures) ∙ c.if-not-value_fits.false) (sym (rw of_part at c.label_fits.ensures) ∙ c.if-not-label_fits.true)

pub loop-cell-preserved : goal.loop-cell-preserved
loop-cell-preserved c =
    keep c.loop-cell.invariant c.loop-cell-test.true
    (sym (rw of_part at c.value_fits.ensures) ∙ c.if-not-value_fits.false) (sym (rw of_part at c.label_fits.ensures) ∙ c.if-not-label_fits.false)
