-- `plan_check::steps::check_steps` meets its contract. Assumes nothing.
use mathlib.Core.Path.{◌≡◌, sym, ◌∙◌}
use mathlib.Core.Bool.{true}
use native.Mathlib.Omega.{arith}
use Prim.Native.Nat.{◌+◌, ◌*◌}
use lib.ListN.{length}
use Rattle.input.specs.declared.PlanRefusal.TheVariants.{Columns}
use Rattle.std.proofs.lemmas.Result.{err_from_is_err_and}
use Rattle.plan.specs.Widths.{enough_tables, placed, made_columns}
use Rattle.kinds.proofs.Laws.{enough-room}
use Rattle.widths.proofs.Laws.{placed-parts}
use Rattle.plan_check.proofs.Stacks.{columns-placed, misplaced}
use Rattle.plan_check.proofs.StepsLeft.{not-placed, keep}
use Rattle.plan_check.proofs.steps.check_steps.Goals as goal
use Rattle.plan_check.proofs.steps.check_steps.Goals.{Else-not-enough_tables, In_ok-columns}

enough : (c : Else-not-enough_tables) → enough_tables c.in_ok-next.next (length c.loop-step.stack) ≡ true
enough c = rw (← c.len.ensures.value) (sym c.enough_tables.ensures ∙ c.if-not-enough_tables.false)

wide : (c : In_ok-columns) → let step = c.in_ok-next.next in (placed step c.args.tables.now c.loop-step.stack ≡ true) × (c.in_ok-columns.columns ≡ made_columns step c.args.tables.now c.loop-step.stack)
wide c = columns-placed _ _ (sym c.made_width.ensures ∙ c.in_ok-columns.ensures.ok_part)

pub returns-in_err-columns : goal.returns-in_err-columns
returns-in_err-columns c =
    let p = err_from_is_err_and c.from_residual-in_err-columns.result c.from_residual-in_err-columns.ensures.1 in
    let none = c.in_err-columns.ensures.ok_part in
    let e : c.in_err-columns.field-0.0 ≡ Columns (c.args.at + 16 * c.loop-step.step) = let f = rw none at c.in_err-columns.ensures.value in cc in
    rw (p.1, p.2, e)
    (not-placed c.loop-step.invariant c.in_ok-next.next (omega arith) (sym c.found_at.ensures ∙ c.in_ok-next.ensures.ok_part)
    (enough (goal.at.returns-in_err-columns c).Else-not-enough_tables) (misplaced _ _ (sym c.made_width.ensures ∙ none)))

pub push-requires : goal.push-requires
push-requires c =
    let w = wide (goal.at.push-requires c).In_ok-columns in
    let room = enough-room _ _ (rw c.len.ensures.value at c.len.ensures.few) (enough (goal.at.push-requires c).Else-not-enough_tables) in
    (rw c.takes.ensures room.0, rw c.takes.ensures room.1, rw w.1 (placed-parts _ _ _ w.0).1)

pub loop-step-preserved : goal.loop-step-preserved
loop-step-preserved c =
    let w = wide (goal.at.loop-step-preserved c).In_ok-columns in
    keep c.loop-step.invariant c.in_ok-next.next (omega arith) (sym c.found_at.ensures ∙ c.in_ok-next.ensures.ok_part)
    (enough (goal.at.loop-step-preserved c).Else-not-enough_tables) w.0 _ (rw (← w.1, ← c.takes.ensures) c.push.ensures)
