-- `table_check::checking::check_table` meets its contract. Assumes nothing.
use mathlib.Core.Path.{sym, ◌∙◌}
use native.Mathlib.Nat.{mul-le-mul}
use native.Mathlib.Omega.{arith}
use Rattle.table_check.proofs.Header.{header}
use Rattle.table_check.proofs.checking.check_table.Goals as goal

pub check_cells-requires : goal.check_cells-requires
check_cells-requires c =
    let h = header _ (sym c.header_fits.ensures ∙ c.if-not-header_fits.false) in
    rw c.cell_count.ensures (omega (arith, h.whole, mul-le-mul h.small h.few), h.whole)
