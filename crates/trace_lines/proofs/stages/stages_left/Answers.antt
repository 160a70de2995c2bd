-- `trace_lines::stages::stages_left` meets its contract. Assumes nothing.
use Prim.Native.Nat.{◌+◌, ◌-◌, ◌*◌}
use mathlib.Core.Path.{◌≡◌, sym, ◌∙◌}
use native.Mathlib.Nat.{mul-le-mul}
use native.Mathlib.Omega.{arith}
use lib.ListN.{length, drop}
use Rattle.std.proofs.lemmas.Grind.{common_steps}
use Rattle.cells.proofs.Searching.{within-table}
use Rattle.trace_lines.proofs.Sums.{stages-flat, stages-summed, stages-fit}
use Rattle.trace_lines.proofs.stages.stages_left.Goals as goal

pub stages_of-requires : goal.stages_of-requires
stages_of-requires c =
    let a = c.args in
    let t = within-table a.table.at a.table.rows a.table.columns (length a.labels.now) (sym c.within.ensures ∙ c.if-not-within.false) in
    let few = mul-le-mul t.0 t.1 in
    grind (arith, common_steps, few, stages-fit)

pub returns : goal.returns
returns c =
    let a = c.args in
    let fits = sym c.within.ensures ∙ c.if-not-within.false in
    let n : a.table.at + a.table.rows * a.table.columns - a.table.at ≡ a.table.rows * a.table.columns = omega arith in
    rw (fits, stages-flat a.table.columns a.table.rows (drop a.table.at a.labels.now), ← n) (c.stages_of.ensures ∙ sym (stages-summed _))
