-- `walk::steps::take_steps` meets its contract. Assumes nothing.
use Prim.Native.Nat.{◌^◌, ◌<◌}
use mathlib.Core.Path.{◌≡◌, refl}
use mathlib.Core.List.{map}
use native.Mathlib.Omega.{arith}
use lib.ListN.{length}
use borrow.Author.Rules.{rules}
use Rattle.demands.specs.Given.{Given, plan_given}
use Rattle.plan.specs.declared.Step.{Step}
use Rattle.plan_part.specs.promises.Steps.{step_at}
use Rattle.std.specs.Prelude.{Option, Some}
use Rattle.walk.specs.promises.Walk.{given_of, step_number}
use Rattle.walk.proofs.OneStep.{there, found-step}
use Rattle.walk.proofs.Turn.{turn-refused, turn-fits, turn-drawn, turn-on}
use Rattle.walk.proofs.Walking.{count-is, go-begin, go-end}
use Rattle.walk.proofs.steps.take_steps.Goals as goal
use Rattle.walk.proofs.steps.take_steps.Goals.{In-loop-index, Start}

abbrev given-at : Start → Given
given-at s = given_of s.args.container.now s.args.draws.now (map (λ overlay. overlay.now) s.args.overlays.now)

abbrev given-in : In-loop-index → Given
given-in s = given_of s.args.container.now s.args.draws.now (map (λ overlay. overlay.now) s.args.overlays.now)

inside : (s : In-loop-index) → s.loop-index.index < length (plan_given (given-in s))
inside s = omega (arith, s.loop-index-test.true, s.loop-index.invariant.0)

next-is : (s : In-loop-index) {found : Option Step} → found ≡ step_at s.part-plan.result.now s.loop-index.index → {next : Step} → found ≡ Some next → next ≡ step_number (given-in s) s.loop-index.index
next-is s e some = found-step (given-in s) _ s.requires.is_accepted (inside s) s.part-plan.ensures e some

pub loop-index-init : goal.loop-index-init
loop-index-init c =
    ((count-is (given-at (goal.at.loop-index-init c).Start) c.requires.is_accepted c.part-plan.ensures c.step_count-steps.ensures).0, go-begin c.requires.is_accepted c.requires.room c.no_tables-stack.ensures, refl, search rules)

pub slice_bounds-take_step-count : goal.slice_bounds-take_step-count
slice_bounds-take_step-count c = c.loop-index.invariant.1.drawn

pub unreachable-requires : goal.unreachable-requires
unreachable-requires c =
    let s = (goal.at.unreachable-requires c).In-loop-index in
    let found = there (given-in s) _ s.requires.is_accepted (inside s) s.part-plan.ensures c.step_at.ensures in
    cc (c.in_default.is, found)

pub returns-in-Err-Refused-clause-walked : goal.returns-in-Err-Refused-clause-walked
returns-in-Err-Refused-clause-walked c =
    let s = (goal.at.returns-in-Err-Refused-clause-walked c).In-loop-index in
    let k = next-is s c.step_at.ensures c.in-Some.is in
    let t = rw (c.in-Err-Refused.is, c.in-Err-Refused.field-0-is) at c.take_step.ensures.done in
    let h = turn-refused c.requires.is_accepted c.requires.room c.loop-index.invariant.1 (inside s) k t in
    rw c.in-Err-Refused.refusal-is h

pub unreachable-requires-in-Err-DoesNotFit : goal.unreachable-requires-in-Err-DoesNotFit
unreachable-requires-in-Err-DoesNotFit c =
    let s = (goal.at.unreachable-requires-in-Err-DoesNotFit c).In-loop-index in
    let k = next-is s c.step_at.ensures c.in-Some.is in
    turn-fits c.requires.is_accepted c.requires.room c.loop-index.invariant.1 (inside s) k (rw (c.in-Err-DoesNotFit.is, c.in-Err-DoesNotFit.field-0-is) at c.take_step.ensures.done)

few-draws : (c : Start) → length c.args.draws.now < 2 ^ 64
few-draws c = search rules

pub overflow_add-used : goal.overflow_add-used
overflow_add-used c =
    let s = (goal.at.overflow_add-used c).In-loop-index in
    let k = next-is s c.step_at.ensures c.in-Some.is in
    let few = turn-drawn c.requires.is_accepted c.requires.room c.loop-index.invariant.1 (inside s) k (rw c.in-Ok.is at c.take_step.ensures.done) c.rule_year-year.ensures c.overlay_step.ensures c.live_table-top.ensures c.draws_used-used.ensures in
    omega (arith, few, few-draws (goal.at.overflow_add-used c).Start)

pub loop-index-preserved : goal.loop-index-preserved
loop-index-preserved c =
    let s = (goal.at.loop-index-preserved c).In-loop-index in
    let k = next-is s c.step_at.ensures c.in-Some.is in (
      c.loop-index.invariant.0,
      turn-on c.requires.is_accepted c.requires.room c.loop-index.invariant.1 (inside s) k (rw c.in-Ok.is at c.take_step.ensures.done) c.rule_year-year.ensures c.overlay_step.ensures c.live_table-top.ensures c.draws_used-used.ensures c.write_step.ensures,
      search rules,
      search rules,
    )

pub returns-clause-walked : goal.returns-clause-walked
returns-clause-walked c =
    go-end c.requires.is_accepted c.requires.room c.loop-index.invariant.1 _ c.loop-index.invariant.0 (omega (arith, c.loop-index-test.false)) c.live_table-left.ensures
