-- `table_values::output::copy_out` meets its contract. Assumes nothing.
use mathlib.Core.Path.{◌≡◌, sym, ◌∙◌}
use native.Mathlib.Omega.{arith}
use lib.IntN.{pos}
use Rattle.value.proofs.Machine.{back_is}
use Rattle.cells.proofs.CellLaws.{within-le}
use Rattle.cells.proofs.Written.{nothing_written}
use Rattle.cells.proofs.Filled.{next-copied, all-copied}
use Rattle.table_values.proofs.output.copy_out.Goals as goal

pub loop-i-init : goal.loop-i-init
loop-i-init c = nothing_written c.args.output.now 0 (omega arith)

pub loop-i-preserved : goal.loop-i-preserved
loop-i-preserved c =
    let a = c.args in
    let inside = within-le a.at a.count _ (sym c.within.ensures ∙ c.if-not-within.false) in
    rw (back_is _ c.output-1.given) (next-copied a.values.now a.at c.loop-i.i (pos 0) c.loop-i.invariant (omega (arith, inside)) (omega arith))

pub returns-clause-output_after : goal.returns-clause-output_after
returns-clause-output_after c =
    let a = c.args in
    let all : c.loop-i.i ≡ a.count = omega arith in
    all-copied a.values.now a.at a.count (rw all at c.loop-i.invariant) (within-le a.at a.count _ (sym c.within.ensures ∙ c.if-not-within.false))
