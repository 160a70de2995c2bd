-- The tables of a run have rows of their width, at most 256 of them, and at most 8 columns; its trace has at most 64 lines. Assumes nothing.
use Prim.Native.Nat.{ℕ, suc, ◌≤◌}
use mathlib.Core.Path.{◌≡◌, refl}
use mathlib.Core.Bool.{true, and-eq-true_iff}
use mathlib.Core.List.{List, [], ◌∷◌, map}
use native.Mathlib.Nat.{le_trans, le_of_eq, mul-le-mul}
use native.Mathlib.Omega.{arith}
use lib.Dec.{leb}
use lib.ListN.{length, drop}
use borrow.Author.Tests.{leb-true}
use Rattle.accepted.specs.Accepted.{Placed}
use Rattle.input.specs.Verdict.{accepted}
use Rattle.accepted.proofs.AcceptedPlan.{steps-counted}
use Rattle.plan.specs.Supply.{Supply}
use Rattle.plan.specs.Table.{flat, Each, Shaped, Table, no_table, grid, top}
use Rattle.memory.specs.promises.Steps.{widths_of}
use Rattle.cells.proofs.RowReads.{flat-length}
use Rattle.plan.specs.Evaluate.{release, Result, check_release, ending, evaluate_from, evaluate}
use Rattle.plan.specs.Sense.{Small}
use Rattle.plan.specs.Steps.{takes, check, make, too_many, supply_after}
use Rattle.plan.specs.Verdict.{Verdict, fine, refused}
use Rattle.plan.specs.Widths.{columns_exist, made_columns, placed}
use Rattle.plan.specs.declared.Step.{Step}
use Rattle.plan.proofs.SenseShape.{each-get, made_shaped, made-small}
use Rattle.plan.specs.Trace.{flat_lines}
use Rattle.trace_lines.proofs.Laws.{lines-length}
use Rattle.demands.specs.Given.{Given, check_given, plan_given, prepared, supply_given}
use Rattle.demands.specs.Monitor.{evaluation}
use Rattle.demands.proofs.Prepared.{container-ok, placed-given, prepared-shaped, prepared-small, prepared-columns}
use Rattle.demands.proofs.Widths.{made-columns, placed-after}
use Rattle.plan.proofs.SenseEach.{each-drop, each_weaken}

pub record Held (table : Table) : Type 0 where
  pub shaped : Shaped table
  pub small : Small table
  pub few : table.columns ≤ 8

each-shaped : (tables : List Table) → Each Held tables → Each Shaped tables
each-shaped = each_weaken Held Shaped (λ table h. h.shaped)

each-small : (tables : List Table) → Each Held tables → Each Small tables
each-small = each_weaken Held Small (λ table h. h.small)

-- an accepted container's tables
tables-held : (year : ℕ) (given : Given) → check_given given ≡ accepted → Each Held (prepared year given)
tables-held year given e = all (prepared year given) (prepared-shaped year given e) (prepared-small year given e) (prepared-columns year given e)
  where
    all : (tables : List Table) → Each Shaped tables → Each Small tables → Each (λ table. (1 ≤ table.columns) × (table.columns ≤ 8)) tables → Each Held tables
    all [] s m w = tt
    all (table ∷ tables) s m w = (record { shaped = s.0; small = m.0; few = w.0.1 }, all tables s.1 m.1 w.1)

-- a step that the plan's check places
made_held : (step : Step) (supply : Supply) (stack : List Table) → Each Held supply.tables → Each Held stack → placed step (widths_of supply.tables) (widths_of stack) ≡ true
    → too_many step (make step supply stack) ≡ fine → Held (make step supply stack)
made_held step supply stack t s p m =
    let b = (and-eq-true_iff (columns_exist step (widths_of supply.tables) (widths_of stack)) (leb (made_columns step (widths_of supply.tables) (widths_of stack)) 8)).0 p in
    record {
      shaped = (made_shaped step supply stack b.0 (each-shaped supply.tables t) (each-shaped stack s)).0;
      small = made-small step supply stack (each-small supply.tables t) (each-small stack s) m;
      few = rw (made-columns step supply stack) (leb-true _ 8 b.1);
    }

-- ---- along a plan

onward : (v : Verdict) (step : ℕ) (result : Result) (table : Table) → (ending v step result).outcome ≡ release table → (v ≡ fine) × (result.outcome ≡ release table)
onward fine step result table e = (refl, e)
onward (refused number row column) step result table e = absurd (let z : ◌≡◌ {A = ℕ} 0 1 = cc in omega arith)

released-held : (supply : Supply) → Each Held supply.tables → (step : ℕ) (stack : List Table) (plan : List Step) → Each Held stack
    → Placed (widths_of supply.tables) (widths_of stack) plan → (table : Table) → (evaluate_from supply step stack plan).outcome ≡ release table → Held table
unfolding evaluate_from
released-held supply t step stack [] s p table e =
    let o : top stack ≡ table = cc (onward (check_release (top stack)) step _ table e).1 in
    rw (← o) (each-get Held stack 0 no_table (record { shaped = tt; small = omega arith; few = omega arith }) s)
released-held supply t step stack (next ∷ later) s p table e =
    let o = onward (check next (length supply.draws) (map grid stack)) step _ table e in
    let m = onward (too_many next (make next supply stack)) step _ table o.1 in
    released-held (supply_after next stack supply) t (suc step) (make next supply stack ∷ drop (takes next) stack) later
    (made_held next supply stack t s p.2 m.0, each-drop Held (takes next) stack s) (placed-after next later supply stack p) table m.1

trace-ending : (v : Verdict) (step n : ℕ) (result : Result) → length result.trace ≤ n → length (ending v step result).trace ≤ n
trace-ending fine step n result h = h
trace-ending (refused number row column) step n result h = omega arith

-- a line for each step at most
trace-length : (supply : Supply) (step : ℕ) (stack : List Table) (plan : List Step) → length (evaluate_from supply step stack plan).trace ≤ length plan
unfolding evaluate_from
trace-length supply step stack [] = trace-ending (check_release (top stack)) step 0 _ (omega arith)
trace-length supply step stack (next ∷ later) =
    let more = trace-length (supply_after next stack supply) (suc step) (make next supply stack ∷ drop (takes next) stack) later in
    trace-ending (check next (length supply.draws) (map grid stack)) step (suc (length later)) _
    (trace-ending (too_many next (make next supply stack)) step (suc (length later)) _ (omega (arith, more)))

-- ---- an accepted container

module _ (year : ℕ) (given : Given) (e : check_given given ≡ accepted) where
  module _ (table : Table) (o : (evaluation year given).outcome ≡ release table) where
    pub release-held : Held table
    unfolding evaluation evaluate
    release-held = released-held (supply_given year given) (tables-held year given e) 0 [] (plan_given given) tt (placed-given year given e) table o

    pub cells-most : length (flat table.rows) ≤ 2048
    cells-most =
        le_trans (le_of_eq (flat-length table.columns table.rows release-held.shaped)) (mul-le-mul release-held.small release-held.few)

  pub lines-most : length (flat_lines (evaluation year given).trace) ≤ 256
  unfolding evaluation evaluate
  lines-most = omega (arith, lines-length (evaluation year given).trace, trace-length (supply_given year given) 0 [] (plan_given given), steps-counted given.container (container-ok given e))
