-- `container::checks::table_widths` meets its contract. Assumes nothing.
use native.Mathlib.Nat.{add_comm}
use native.Mathlib.Numerals.{add-one}
use native.Mathlib.Omega.{arith}
use lib.ListN.{length-set}
use lib.Seq.{take-suc-set}
use Rattle.container.proofs.TablesLeft.{widths-more}
use Rattle.container.proofs.checks.table_widths.Goals as goal

pub loop-index-preserved : goal.loop-index-preserved
loop-index-preserved c = let i = c.loop-index.invariant in (
  simp length-set i.0,
  rw (
    add-one c.loop-index.index,
    take-suc-set c.loop-index.widths c.loop-index.index c.byte.result (omega arith),
    i.1,
    widths-more c.args.container.now 1 c.loop-index.index,
  ) (rw (c.byte.ensures, c.part.ensures, add_comm 1 c.loop-index.index)),
)
