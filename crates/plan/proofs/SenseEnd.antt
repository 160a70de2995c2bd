-- What a released table is like, and the numbers of refusals: both follow from where the checks refuse. Assumes nothing.
use Prim.Native.Nat.{ℕ, suc, ◌≤◌}
use mathlib.Core.Path.{◌≡◌, refl}
use mathlib.Core.Bool.{Bool, true, false, ◌&&◌}
use mathlib.Core.List.{List, [], ◌∷◌, map}
use mathlib.Core.Logic.{⊎_elim, inl, inr}
use native.Mathlib.Omega.{arith}
use lib.Dec.{ltb}
use lib.ListN.{length}
use borrow.Author.Tests.{eqb-true}
use Rattle.plan.specs.Evaluate.{refuse, Result, check_release, ending, evaluate_from, evaluate}
use Rattle.plan.specs.Sense.{ReleasedClear, RefusalNumbers}
use Rattle.plan.specs.Sense.Refusals.{RefusalPlace, place, FirstAt, nowhere, row_in}
use Rattle.plan.specs.Steps.{grows, check, make, too_many, supply_after}
use Rattle.plan.specs.Supply.{Supply}
use Rattle.plan.specs.Table.{Table, blank, grid, top}
use Rattle.plan.specs.Verdict.{Verdict, fine, refused, refuse_if}
use Rattle.plan.specs.declared.Step.{Step}
use Rattle.plan.specs.declared.Step.TheVariants.{Scan, Union, Join, Filter, Keep, Apply, Group, Noise}
use Rattle.plan.proofs.AboutEnding.{release-is-last}
use Rattle.plan.proofs.AboutRefusals.{filter-refusal, join-refusal, group-refusal, apply-refusal, noise-refusal, release-refusal}
use Rattle.plan.proofs.Bools.{is_true}
use Rattle.plan.proofs.SenseEach.{each_at}

-- ---- released cells

-- where a check is fine nothing fails
none-fails : {Before : RefusalPlace → RefusalPlace → Type 0} {Fails : RefusalPlace → Type 0} {v : Verdict} → FirstAt Before Fails v → v ≡ fine → (p : RefusalPlace) → ¬ Fails p
none-fails (nowhere h) e = h
none-fails (FirstAt.at f h) e = absurd (let z : ◌≡◌ {A = ℕ} 0 1 = cc in omega arith)

pub released-clear : ReleasedClear
released-clear plan supply table e =
    let none = none-fails (release-refusal table) (release-is-last plan supply table e).1 in
    each_at _ table.rows (record { cells = []; mark = 0 }) (λ row h.
    each_at _ (row_in row table).cells blank (λ column l. (
      eqb-true _ 0 (is_true _ (λ f. none (place 35 row column) (inl (refl, f)))),
      is_true _ (λ f. none (place 36 row column) (inr (refl, l, f))),
    )))

-- ---- the numbers of refusals

-- a verdict whose number, if it has one, lies from 31 to 36
abbrev Numbered : Verdict → Type 0
Numbered fine = Unit
Numbered (refused number row column) = (31 ≤ number) × (number ≤ 37)

first-numbered : {Before : RefusalPlace → RefusalPlace → Type 0} {Fails : RefusalPlace → Type 0} {v : Verdict} → ((p : RefusalPlace) → Fails p → (31 ≤ p.number) × (p.number ≤ 37))
    → FirstAt Before Fails v → Numbered v
first-numbered h (nowhere n) = tt
first-numbered h (FirstAt.at f n) = h _ f

check-numbered : (step : Step) (left : ℕ) (stack : List Table) → Numbered (check step left (map grid stack))
unfolding check
check-numbered (Scan table) left stack = tt
check-numbered Union left stack = tt
check-numbered (Join a b) left stack = first-numbered (λ p f. omega (arith, f.0)) (join-refusal a b left stack)
check-numbered (Filter column comparison operand) left stack = first-numbered (λ p f. omega (arith, f.0)) (filter-refusal column comparison operand left stack)
check-numbered (Keep mask) left stack = tt
check-numbered (Apply column transform) left stack = first-numbered (λ p. ⊎_elim (λ f. omega (arith, f.0)) (λ f. omega (arith, f.0))) (apply-refusal column transform left stack)
check-numbered (Group keys aggregate column) left stack =
    first-numbered (λ p. ⊎_elim (λ f. omega (arith, f.0)) (λ f. omega (arith, f.0))) (group-refusal keys aggregate column left stack)
check-numbered (Noise column) left stack =
    first-numbered (λ p f. ⊎_elim (λ g. omega (arith, g.0)) (λ g. omega (arith, g.0)) f.2) (noise-refusal column left stack)

release-numbered : (table : Table) → Numbered (check_release table)
release-numbered table = first-numbered (λ p. ⊎_elim (λ f. omega (arith, f.0)) (λ f. omega (arith, f.0))) (release-refusal table)

if-numbered : (fact : Bool) → Numbered (refuse_if fact 34 256 0)
if-numbered true = omega arith
if-numbered false = tt

ends-numbered : (v : Verdict) (step : ℕ) (result : Result) (number at row column : ℕ) → Numbered v → (result.outcome ≡ refuse number at row column → (31 ≤ number) × (number ≤ 37))
    → (ending v step result).outcome ≡ refuse number at row column → (31 ≤ number) × (number ≤ 37)
ends-numbered fine step result number at row column n later e = later e
ends-numbered (refused k r c) step result number at row column n later e = let same : k ≡ number = cc in rw (← same) n

refused-from : (supply : Supply) (step : ℕ) (stack : List Table) (plan : List Step) (number at row column : ℕ)
    → (evaluate_from supply step stack plan).outcome ≡ refuse number at row column → (31 ≤ number) × (number ≤ 37)
unfolding evaluate_from too_many
refused-from supply step stack [] number at row column e =
    ends-numbered (check_release (top stack)) step _ number at row column (release-numbered (top stack)) (λ f. absurd (let z : ◌≡◌ {A = ℕ} 0 1 = cc in omega arith)) e
refused-from supply step stack (next ∷ later) number at row column e =
    ends-numbered (check next (length supply.draws) (map grid stack)) step _ number at row column (check-numbered next (length supply.draws) stack)
    (ends-numbered (too_many next (make next supply stack)) step _ number at row column (if-numbered (grows next && ltb 256 (length (make next supply stack).rows)))
    (refused-from (supply_after next stack supply) (suc step) _ later number at row column)) e

pub refusal-numbers : RefusalNumbers
unfolding evaluate
refusal-numbers plan supply number step row column e = refused-from supply 0 [] plan number step row column e
