-- `sheet_check::sheets_fit` meets its contract. Assumes nothing.
use Prim.Native.Nat.{◌-◌, ◌≤◌}
use mathlib.Core.Path.{◌≡◌, sym, ◌∙◌}
use mathlib.Core.Bool.{Bool}
use mathlib.Core.Logic.{◌≢◌}
use native.Mathlib.Omega.{arith}
use borrow.Author.Tests.{eq-eqb, ne_eqb, le-leb, lt-leb}
use Rattle.sheet_check.specs.Sheets.{all_fit, sheets_fit}
use Rattle.table_part.specs.TablePart.{columns_of, sheets_of, row_count}
use Rattle.sheet_check.proofs.SheetsLeft.{begin, wrong, keep, finish}
use Rattle.sheet_check.proofs.sheets_fit.Goals as goal
use Rattle.sheet_check.proofs.sheets_fit.Goals.{Else-columns-sheets, Else-sheets-eq0}

pub returns-then-sheets-eq0 : goal.returns-then-sheets-eq0
unfolding sheets_fit
returns-then-sheets-eq0 c = rw (eq-eqb (sheets_of c.args.table.now) 0 (sym c.byte-sheets.ensures ∙ c.if-sheets-eq0.true))

-- a column is named
named : (c : Else-sheets-eq0) → sheets_of c.args.table.now ≢ 0
named c e = c.if-sheets-eq0.false (c.byte-sheets.ensures ∙ e)

-- a column is named
named-at-Else-columns-sheets : (c : Else-columns-sheets) → sheets_of c.args.table.now ≢ 0
named-at-Else-columns-sheets c e = c.if-sheets-eq0.false (c.byte-sheets.ensures ∙ e)

-- and there is one
there : (c : Else-columns-sheets) → let part = c.args.table.now in sheets_of part ≤ columns_of part
there c = omega (arith, c.byte-columns.ensures, c.byte-sheets.ensures, c.if-columns-sheets.false)

-- the whole check, by that of the cells
checked : {b : Bool} (c : Else-columns-sheets) → let part = c.args.table.now in all_fit part (c.byte-sheets.result - 1) (row_count part) ≡ b → b ≡ sheets_fit part
unfolding sheets_fit
checked c e = sym (rw (ne_eqb _ 0 (named-at-Else-columns-sheets c), le-leb _ _ (there c), ← c.byte-sheets.ensures) e)

pub returns-then-columns-sheets : goal.returns-then-columns-sheets
unfolding sheets_fit
returns-then-columns-sheets c =
    rw (ne_eqb _ 0 (named (goal.at.returns-then-columns-sheets c).Else-sheets-eq0), lt-leb (sheets_of _) (columns_of _) (rw (c.byte-columns.ensures, c.byte-sheets.ensures) at c.if-columns-sheets.true))

pub loop-row-init : goal.loop-row-init
loop-row-init c = begin _ _

pub returns-then-not-sheet_fits : goal.returns-then-not-sheet_fits
returns-then-not-sheet_fits c =
    checked (goal.at.returns-then-not-sheet_fits c).Else-columns-sheets (wrong c.loop-row.invariant (rw c.two-rows.ensures at c.loop-row-test.true) (rw c.byte-columns.ensures at (sym c.sheet_fits.ensures ∙ c.if-not-sheet_fits.true)))

pub loop-row-preserved : goal.loop-row-preserved
loop-row-preserved c =
    keep c.loop-row.invariant (rw c.two-rows.ensures at c.loop-row-test.true) (rw c.byte-columns.ensures at (sym c.sheet_fits.ensures ∙ c.if-not-sheet_fits.false))

pub returns : goal.returns
returns c =
    checked (goal.at.returns c).Else-columns-sheets (finish c.loop-row.invariant (rw c.two-rows.ensures at c.loop-row-test.false))
