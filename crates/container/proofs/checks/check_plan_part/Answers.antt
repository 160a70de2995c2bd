-- `container::checks::check_plan_part` meets its contract. Assumes nothing.
use Prim.Native.Nat.{ℕ}
use native.Mathlib.Omega.{arith}
use lib.ListN.{length-take}
use Rattle.layout_check.proofs.Sized.{sized}
use Rattle.container.proofs.checks.check_plan_part.Goals as goal

pub overflow_sub-tables : goal.overflow_sub-tables
overflow_sub-tables c = omega (arith, (sized _ c.requires).least)

pub table_widths-widths-requires : goal.table_widths-widths-requires
table_widths-widths-requires c = omega (arith, (sized _ c.requires).most)

pub slice_bounds-widths-end : goal.slice_bounds-widths-end
slice_bounds-widths-end c = omega (arith, (sized _ c.requires).most)

pub slice_bounds-check_plan-end : goal.slice_bounds-check_plan-end
slice_bounds-check_plan-end c = omega (arith, (sized _ c.requires).most, length-take {A = ℕ})
