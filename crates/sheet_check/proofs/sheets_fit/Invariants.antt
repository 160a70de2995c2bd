-- `sheet_check::sheets_fit` meets its contract. Assumes nothing.
use Prim.Native.Nat.{◌-◌}
use Rattle.sheet_check.proofs.SheetsLeft.{Sheets}
use Rattle.sheet_check.proofs.sheets_fit.Given as goal

abbrev pub invariant-loop-row : goal.invariant-loop-row
invariant-loop-row l = Sheets l.table (l.sheets - 1) l.row
