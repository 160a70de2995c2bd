-- How an evaluation ends. Assumes nothing.
use Prim.Native.Nat.{ℕ, suc, ◌+◌}
use mathlib.Core.Path.{◌≡◌, refl, sym}
use mathlib.Core.List.{List, [], ◌∷◌, ◌++◌, map}
use native.Mathlib.Nat.{zero-add, add-zero}
use native.Mathlib.Omega.{arith}
use lib.ListN.{length, drop}
use Rattle.plan.specs.Evaluate.{release, refuse, Result, check_release, ending, behind, evaluate_from, evaluate}
use Rattle.plan.specs.Sense.Ending.{ReleaseIsLast, StepRefuses, ReleaseRefuses, TraceLength}
use Rattle.plan.specs.Sense.Trace.{stack_left, supply_left}
use Rattle.plan.specs.Steps.{takes, check, make, too_many, supply_after}
use Rattle.plan.specs.Supply.{Supply}
use Rattle.plan.specs.Table.{Table, grid, top}
use Rattle.plan.specs.Trace.{Line}
use Rattle.plan.specs.Verdict.{Verdict, fine, refused, or_else}
use Rattle.plan.specs.declared.Step.{Step}

-- ---- how many lines are written

not-refused : {table : Table} {n step row column : ℕ} → release table ≡ refuse n step row column → ⊥
not-refused e = let z : ◌≡◌ {A = ℕ} 0 1 = cc in omega arith

-- what an evaluation from step `number` on with `steps` steps left writes
record Counted (number steps : ℕ) (result : Result) : Type 0 where
  released : (table : Table) → result.outcome ≡ release table → length result.trace ≡ steps
  refused-at : (n at row column : ℕ) → result.outcome ≡ refuse n at row column → number + length result.trace ≡ at

ended : (v : Verdict) (number steps : ℕ) (result : Result) → Counted number steps result → Counted number steps (ending v number result)
ended fine number steps result c = c
ended (refused n row column) number steps result c = record {
  released = λ table e. absurd (not-refused (sym e));
  refused-at = λ m at r s e. let same : number ≡ at = cc in omega arith;
}

one-more : (line : Line) (number steps : ℕ) (later : Result) → Counted (suc number) steps later → Counted number (suc steps) (behind line later)
one-more line number steps later c = record {
  released = λ table e. omega (arith, c.released table e);
  refused-at = λ n at row column e. omega (arith, c.refused-at n at row column e);
}

counted : (supply : Supply) (number : ℕ) (stack : List Table) (plan : List Step) → Counted number (length plan) (evaluate_from supply number stack plan)
unfolding evaluate_from
counted supply number stack [] =
    ended (check_release (top stack)) number 0 _ (record { released = λ table e. refl; refused-at = λ n at row column e. absurd (not-refused e) })
counted supply number stack (next ∷ later) =
    ended (check next (length supply.draws) (map grid stack)) number _ _
    (ended (too_many next (make next supply stack)) number _ _ (one-more _ number (length later) _ (counted (supply_after next stack supply) (suc number) (make next supply stack ∷ drop (takes next) stack) later)))

pub trace-length : TraceLength
unfolding evaluate
trace-length plan supply =
    let c = counted supply 0 [] plan in
    (c.released, λ number step row column e. omega (arith, c.refused-at number step row column e))

-- ---- what is released, and which check refuses

-- an evaluation that releases went on, and one that refuses at another step too
pub released : (v : Verdict) (number : ℕ) (result : Result) (table : Table) → (ending v number result).outcome ≡ release table → (v ≡ fine) × (result.outcome ≡ release table)
released fine number result table e = (refl, e)
released (refused n row column) number result table e = absurd (not-refused (sym e))

refused-later : (v : Verdict) (number : ℕ) (result : Result) (n at row column : ℕ) → (number ≡ at → ⊥) → (ending v number result).outcome ≡ refuse n at row column
    → result.outcome ≡ refuse n at row column
refused-later fine number result n at row column h e = e
refused-later (refused m r c) number result n at row column h e = absurd (h cc)

-- a refusal at this step is one of its two
refused-here : (v w : Verdict) (number : ℕ) (result : Result) (n row column : ℕ) → (result.outcome ≡ refuse n number row column → ⊥)
    → (ending v number (ending w number result)).outcome ≡ refuse n number row column → or_else v w ≡ refused n row column
refused-here fine fine number result n row column h e = absurd (h e)
refused-here fine (refused m r c) number result n row column h e = cc
refused-here (refused m r c) w number result n row column h e = cc

-- the stack and the supply after a step
abbrev next-stack : Step → Supply → List Table → List Table
next-stack step supply stack = make step supply stack ∷ drop (takes step) stack

release-from : (supply : Supply) (number : ℕ) (stack : List Table) (plan : List Step) (table : Table) → (evaluate_from supply number stack plan).outcome ≡ release table
    → (table ≡ top (stack_left supply stack plan)) × (check_release table ≡ fine)
unfolding evaluate_from
release-from supply number stack [] table e =
    let r = released (check_release (top stack)) number _ table e in
    let same : table ≡ top stack = cc r.1 in
    (same, rw same r.0)
release-from supply number stack (next ∷ later) table e =
    let c = released (check next (length supply.draws) (map grid stack)) number _ table e in
    let r = released (too_many next (make next supply stack)) number _ table c.1 in
    release-from (supply_after next stack supply) (suc number) (next-stack next supply stack) later table r.1

-- a refusal at a later step goes through this one
through : (supply : Supply) (number : ℕ) (stack : List Table) (next : Step) (later : List Step) (n k row column : ℕ)
    → (evaluate_from supply number stack (next ∷ later)).outcome ≡ refuse n (number + suc k) row column
    → (evaluate_from (supply_after next stack supply) (suc number) (next-stack next supply stack) later).outcome ≡ refuse n (suc number + k) row column
unfolding evaluate_from
through supply number stack next later n k row column e =
    let at : number + suc k ≡ suc number + k = omega arith in
    rw at at
    (refused-later (too_many next (make next supply stack)) number _ n (number + suc k) row column (λ q. omega arith)
    (refused-later (check next (length supply.draws) (map grid stack)) number _ n (number + suc k) row column (λ q. omega arith) e))

step_from : (supply : Supply) (number : ℕ) (stack : List Table) (earlier : List Step) (step : Step) (later : List Step) (n row column : ℕ)
    → (evaluate_from supply number stack (earlier ++ (step ∷ later))).outcome ≡ refuse n (number + length earlier) row column
    → let tables = stack_left supply stack earlier in let left = supply_left supply stack earlier in
    or_else (check step (length left.draws) (map grid tables)) (too_many step (make step left tables)) ≡ refused n row column
unfolding evaluate_from
step_from supply number stack [] step later n row column e =
    refused-here (check step (length supply.draws) (map grid stack)) (too_many step (make step supply stack)) number _ n row column
    (λ f. omega (arith, (counted (supply_after step stack supply) (suc number) (next-stack step supply stack) later).refused-at n number row column f)) (rw add-zero at e)
step_from supply number stack (next ∷ earlier) step later n row column e =
    step_from (supply_after next stack supply) (suc number) (next-stack next supply stack) earlier step later n row column
    (through supply number stack next (earlier ++ (step ∷ later)) n (length earlier) row column e)

end-from : (supply : Supply) (number : ℕ) (stack : List Table) (plan : List Step) (n row column : ℕ)
    → (evaluate_from supply number stack plan).outcome ≡ refuse n (number + length plan) row column → check_release (top (stack_left supply stack plan)) ≡ refused n row column
unfolding evaluate_from
end-from supply number stack [] n row column e = refused-here fine (check_release (top stack)) number _ n row column not-refused (rw add-zero at e)
end-from supply number stack (next ∷ later) n row column e =
    end-from (supply_after next stack supply) (suc number) (next-stack next supply stack) later n row column (through supply number stack next later n (length later) row column e)

pub release-is-last : ReleaseIsLast
unfolding evaluate
release-is-last plan supply table e = release-from supply 0 [] plan table e

pub step-refuses : StepRefuses
unfolding evaluate
step-refuses supply earlier step later number row column e = step_from supply 0 [] earlier step later number row column (rw zero-add e)

pub release-refuses : ReleaseRefuses
unfolding evaluate
release-refuses plan supply number row column e = end-from supply 0 [] plan number row column (rw zero-add e)
