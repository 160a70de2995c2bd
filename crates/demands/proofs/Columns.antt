-- The table that an accepted plan leaves has a column. Assumes nothing.
use Prim.Native.Nat.{ℕ, zero, suc, ◌+◌, ◌^◌, ◌≤◌, ◌<◌}
use mathlib.Core.Path.{◌≡◌, refl}
use mathlib.Core.Bool.{Bool, true, false, cond, and-eq-true_iff}
use mathlib.Core.List.{List, [], ◌∷◌}
use native.Mathlib.Nat.{div-eq_of_lt-le, two-pow-succ}
use native.Mathlib.Omega.{arith}
use lib.Dec.{eqb, leb, ltb}
use lib.ListN.{length, get_or, drop}
use borrow.Author.Tests.{leb-true, leb-false, ltb-true, eqb-false, not-true}
use Rattle.accepted.specs.Accepted.{Placed, operation_exists}
use Rattle.input.specs.Verdict.{accepted}
use Rattle.accepted.proofs.AcceptedOperations.{operations-exist}
use Rattle.memory.specs.promises.Steps.{widths_of}
use Rattle.plan.specs.Keep.{kept_count}
use Rattle.plan.specs.Masks.{in_mask}
use Rattle.plan.specs.Sense.Trace.{stack_left}
use Rattle.plan.specs.Steps.{takes, make, supply_after}
use Rattle.plan.specs.Supply.{Supply}
use Rattle.plan.specs.Table.{Each, Table, top}
use Rattle.plan.specs.Widths.{enough_tables, operand_column_exists, columns_exist, made_columns}
use Rattle.plan.specs.declared.Step.{Step}
use Rattle.plan.specs.declared.Step.TheVariants.{Scan, Union, Join, Filter, Keep, Apply, Group, Noise}
use Rattle.demands.specs.Given.{Given, check_given, plan_given, prepared, supply_given}
use Rattle.demands.proofs.Prepared.{container-ok, placed-given, prepared-columns}
use Rattle.demands.proofs.Widths.{made-columns, widths-drop, placed-after}
use Rattle.plan.proofs.SenseEach.{each-drop}

-- ---- a mask that is not zero, with no bit past the columns, keeps a column

highest-in : (mask column : ℕ) → 2 ^ column ≤ mask → mask < 2 ^ suc column → in_mask mask column ≡ true
unfolding in_mask
highest-in mask column from to = rw (div-eq_of_lt-le {k = 1} (2 ^ column) {m = mask} (omega arith) (omega (arith, two-pow-succ column)))

some-kept : (mask width : ℕ) → 1 ≤ mask → mask < 2 ^ width → 1 ≤ kept_count mask width
some-kept mask zero some fits = absurd (omega arith)
some-kept mask (suc width) some fits = by_size (some-kept mask width some) (leb (2 ^ width) mask) refl
  where
    by_size : (mask < 2 ^ width → 1 ≤ kept_count mask width) → (b : Bool) → leb (2 ^ width) mask ≡ b → 1 ≤ kept_count mask width + cond (in_mask mask width) 1 0
    by_size below true e = rw (highest-in mask width (leb-true (2 ^ width) mask e) fits) (omega arith)
    by_size below false e = omega (arith, below (leb-false (2 ^ width) mask e))

-- ---- along a plan, by the widths of its tables

abbrev Some : List ℕ → Type 0
Some = Each (λ width. 1 ≤ width)

width-there : (widths : List ℕ) (i : ℕ) → Some widths → i < length widths → 1 ≤ get_or widths i 0
width-there [] i s h = absurd (omega arith)
width-there (width ∷ widths) zero s h = s.0
width-there (width ∷ widths) (suc i) s h = width-there widths i s.1 (omega arith)

made_some : (step : Step) (tables stack : List ℕ) → Some tables → Some stack → enough_tables step (length stack) ≡ true → columns_exist step tables stack ≡ true
    → operation_exists step ≡ true → 1 ≤ made_columns step tables stack
unfolding enough_tables columns_exist made_columns
made_some (Scan table) tables stack t s n e o = width-there tables table t (ltb-true table (length tables) e)
made_some Union tables stack t s n e o = width-there stack 1 s (leb-true 2 (length stack) n)
made_some (Join left right) tables stack t s n e o =
    omega (arith, ltb-true left (get_or stack 1 0) ((and-eq-true_iff (ltb left (get_or stack 1 0)) (ltb right (get_or stack 0 0))).0 e).0)
made_some (Filter column comparison operand) tables stack t s n e o =
    omega (arith, ltb-true column (get_or stack 0 0) ((and-eq-true_iff (ltb column (get_or stack 0 0)) (operand_column_exists operand (get_or stack 0 0))).0 e).0)
made_some (Keep mask) tables stack t s n e o =
    let none : mask ≡ 0 → ⊥ = eqb-false mask 0 (not-true (eqb mask 0) o) in
    some-kept mask (get_or stack 0 0) (omega arith) (ltb-true mask (2 ^ get_or stack 0 0) e)
made_some (Apply column transform) tables stack t s n e o = omega arith
made_some (Group keys aggregate column) tables stack t s n e o = omega arith
made_some (Noise column) tables stack t s n e o = omega arith

left-some : (supply : Supply) (stack : List Table) (plan : List Step) → Some (widths_of supply.tables) → Some (widths_of stack) → Placed (widths_of supply.tables) (widths_of stack) plan
    → Each (λ step. operation_exists step ≡ true) plan → 1 ≤ (top (stack_left supply stack plan)).columns
left-some supply [] [] t s p e = absurd (omega arith)
left-some supply (table ∷ stack) [] t s p e = s.0
left-some supply stack (step ∷ later) t s p e =
    let made = made_columns step (widths_of supply.tables) (widths_of stack) in
    let c = (and-eq-true_iff (columns_exist step (widths_of supply.tables) (widths_of stack)) (leb made 8)).0 p.2 in
    left-some (supply_after step stack supply) (make step supply stack ∷ drop (takes step) stack) later t (
      rw (made-columns step supply stack) (made_some step (widths_of supply.tables) (widths_of stack) t s p.1 c.0 e.0),
      rw (← widths-drop (takes step) stack) (each-drop (λ width. 1 ≤ width) (takes step) (widths_of stack) s),
    )
    (placed-after step later supply stack p) e.1

-- an accepted container's tables
widths-some : (tables : List Table) → Each (λ table. (1 ≤ table.columns) × (table.columns ≤ 8)) tables → Some (widths_of tables)
widths-some [] e = tt
widths-some (table ∷ tables) e = (e.0.0, widths-some tables e.1)

pub top-some : (year : ℕ) (given : Given) → check_given given ≡ accepted → 1 ≤ (top (stack_left (supply_given year given) [] (plan_given given))).columns
top-some year given e =
    left-some (supply_given year given) [] (plan_given given) (widths-some (prepared year given) (prepared-columns year given e)) tt
    (placed-given year given e) (operations-exist given.container (container-ok given e))
