-- Tables with byte 1 zero, scanned once and not joined: no mark stands twice on the stack. Assumes nothing.
use Prim.Native.Nat.{ℕ, zero, suc, ◌+◌, ◌≤◌, ◌<◌}
use mathlib.Core.Path.{◌≡◌, refl, sym, ap, ◌∙◌}
use mathlib.Core.Bool.{Bool, true, false, cond}
use mathlib.Core.List.{List, [], ◌∷◌, ◌++◌, map}
use native.Mathlib.Nat.{zero-add, add-zero, add-suc, suc-add}
use native.Mathlib.Omega.{arith}
use lib.Dec.{eqb}
use lib.IntN.{ℤ}
use lib.ListN.{get_or, drop}
use borrow.Author.Tests.{eqb-true}
use Rattle.plan.specs.Apply.{applied_row, applied}
use Rattle.plan.specs.Filter.{passes, passing, filtered}
use Rattle.plan.specs.Group.{same_keys, any_same, groups_after, group_row, grouped}
use Rattle.plan.specs.Keep.{kept_row, kept}
use Rattle.plan.specs.Noise.{noisy_rows, with_noise}
use Rattle.plan.specs.Scan.{scanned}
use Rattle.plan.specs.Sense.Trace.{total, stack_left}
use Rattle.plan.specs.Sheets.{InputTable, own_mark, marks_from, with_marks, all_with_marks}
use Rattle.plan.specs.Steps.{takes, make, supply_after}
use Rattle.plan.specs.Supply.{Supply, supplied}
use Rattle.plan.specs.Table.{Cell, Row, Table, rows_of, no_table, top, second, Each}
use Rattle.plan.specs.Union.{united}
use Rattle.plan.specs.declared.Aggregate.{Aggregate}
use Rattle.plan.specs.declared.Step.{Step}
use Rattle.plan.specs.declared.Step.TheVariants.{Scan, Union, Join, Filter, Keep, Apply, Group, Noise}
use Rattle.plan.proofs.AboutRows.{passing-sifts}
use Rattle.plan.proofs.SenseEach.{each_weaken}
use Rattle.sheet_sense.specs.Once.{NoSheetColumn, NoJoin, ScansOnce, SheetsAreRows}
use Rattle.sheet_sense.proofs.AboutMarks.{marks-of-their-own}
use Rattle.sheet_sense.proofs.Times.{one, times, times-append, sifted-times, groups-count}

module _ (mark : ℕ) where
  -- ---- in the tables of the container

  -- a mark that is that of a row of this table, from one on
  abbrev At : ℕ → ℕ → Type 0
  At table from = (row : ℕ) × (from ≤ row) × (row < 256) × (mark ≡ own_mark table row)

  -- how often the mark stands in these rows: nowhere, or once as one of theirs
  data Own (table from : ℕ) : ℕ → Type 0 where
    nowhere : Own table from 0
    once : At table from → Own table from 1

  -- the rows from one on
  own-from : (columns table from more : ℕ) (cells : List Cell) → from + more ≤ 256
      → Own table from (times mark (rows_of columns (marks_from 0 columns table from more cells) cells))
  own-from columns table from zero cells h = nowhere
  own-from columns table from (suc more) cells h =
      here-or-later (eqb (own_mark table from) mark) refl (own-from columns table (suc from) more (drop columns cells) (omega arith))
    where
      here-or-later : (b : Bool) {n : ℕ} → eqb (own_mark table from) mark ≡ b → Own table (suc from) n → Own table from (one b + n)
      here-or-later true e nowhere = once (from, omega arith, omega arith, sym (eqb-true (own_mark table from) mark e))
      here-or-later true e (once r) =
          let same = marks-of-their-own.0 table from table r.0 (omega arith) r.2 (eqb-true (own_mark table from) mark e ∙ r.3) in
          absurd (omega (arith, r.1, same.1))
      here-or-later false e nowhere = nowhere
      here-or-later false e (once r) = once (r.0, omega (arith, r.1), r.2, r.3)

  -- the table with a number, or none where the number is too large
  own_at : (inputs : List InputTable) (first table : ℕ) → Each NoSheetColumn inputs
      → Own (first + table) 0 (times mark (get_or (all_with_marks first inputs) table no_table).rows)
  unfolding with_marks
  own_at [] first table p = nowhere
  own_at (input ∷ rest) first zero p =
      rw (p.0.0, add-zero first) (own-from input.columns first 0 input.rows input.cells (omega (arith, p.0.1)))
  own_at (input ∷ rest) first (suc table) p = rw (add-suc first table, ← suc-add first table) (own_at rest (suc first) table p.1)

  -- ---- in what a step makes

  -- KEEP and APPLY
  same-marks : (f : Row → Row) → ((row : Row) → (f row).mark ≡ row.mark) → (rows : List Row) → times mark (map f rows) ≡ times mark rows
  same-marks f h [] = refl
  same-marks f h (row ∷ rest) = rw (h row, same-marks f h rest)

  -- NOISE
  noise-marks : (column : ℕ) (draws : List ℤ) (rows : List Row) → times mark (noisy_rows column draws rows) ≡ times mark rows
  noise-marks column draws [] = refl
  noise-marks column draws (row ∷ rest) = rw (noise-marks column (drop 1 draws) rest)

  -- GROUP: a group has the mark of its first row, and other groups have other first rows
  module _ (keys columns : ℕ) (aggregate : Aggregate) (column : ℕ) where
    abbrev made : List (List Row) → List Row
    made groups = map (group_row keys columns aggregate column) groups

    group-marks : (earlier rows : List Row) → times mark (made (groups_after keys columns earlier rows)) ≤ times mark rows
    group-marks earlier [] = omega arith
    group-marks earlier (row ∷ rest) = first-or-not (any_same keys columns row earlier) _ (group-marks (earlier ++ (row ∷ [])) rest)
      where
        first-or-not : (b : Bool) (groups : List (List Row)) → times mark (made groups) ≤ times mark rest
            → times mark (made (cond b [] ((row ∷ passing (same_keys keys columns row) rest) ∷ []) ++ groups)) ≤ times mark (row ∷ rest)
        first-or-not true groups h = omega arith
        first-or-not false groups h = omega arith

  -- ---- on the stack

  -- how often the mark stands in all tables of a stack
  abbrev on_stack : List Table → ℕ
  on_stack stack = total (λ table. times mark table.rows) stack

  -- the tables that a step takes, and those that it leaves
  one-taken : (stack : List Table) → times mark (top stack).rows + on_stack (drop 1 stack) ≡ on_stack stack
  one-taken [] = refl
  one-taken (table ∷ rest) = refl

  two-taken : (stack : List Table) → times mark (second stack).rows + times mark (top stack).rows + on_stack (drop 2 stack) ≡ on_stack stack
  two-taken [] = refl
  two-taken (table ∷ []) = omega arith
  two-taken (table ∷ (other ∷ rest)) = omega arith

  -- in the table that a step scans
  abbrev in_scan : List Table → Step → ℕ
  in_scan tables (Scan table) = times mark (scanned table tables).rows
  in_scan tables Union = 0
  in_scan tables (Join left right) = 0
  in_scan tables (Filter column comparison operand) = 0
  in_scan tables (Keep mask) = 0
  in_scan tables (Apply column transform) = 0
  in_scan tables (Group keys aggregate column) = 0
  in_scan tables (Noise column) = 0

  -- a step that is no JOIN adds a mark only by what it scans
  step-adds : (step : Step) (supply : Supply) (stack : List Table) → ((left right : ℕ) → ¬ (step ≡ Join left right))
      → times mark (make step supply stack).rows + on_stack (drop (takes step) stack) ≤ on_stack stack + in_scan supply.tables step
  unfolding make united filtered kept applied grouped with_noise
  step-adds (Scan table) supply stack j = omega arith
  step-adds Union supply stack j = omega (arith, times-append mark (second stack).rows (top stack).rows, two-taken stack)
  step-adds (Join left right) supply stack j = absurd (j left right refl)
  step-adds (Filter column comparison operand) supply stack j =
      omega (arith, sifted-times mark (passing-sifts (passes column comparison operand) (top stack).rows), one-taken stack)
  step-adds (Keep mask) supply stack j =
      omega (arith, same-marks (kept_row mask (top stack).columns) (λ row. refl) (top stack).rows, one-taken stack)
  step-adds (Apply column transform) supply stack j =
      omega (arith, same-marks (applied_row column transform) (λ row. refl) (top stack).rows, one-taken stack)
  step-adds (Group keys aggregate column) supply stack j =
      omega (arith, group-marks keys (top stack).columns aggregate column [] (top stack).rows, one-taken stack)
  step-adds (Noise column) supply stack j = omega (arith, noise-marks column supply.draws (top stack).rows, one-taken stack)

  -- so do steps, one after the other
  steps-add : (supply : Supply) (stack : List Table) (steps : List Step) → NoJoin steps
      → on_stack (stack_left supply stack steps) ≤ on_stack stack + total (in_scan supply.tables) steps
  steps-add supply stack [] j = omega arith
  steps-add supply stack (step ∷ rest) j =
      let later = steps-add (supply_after step stack supply) (make step supply stack ∷ drop (takes step) stack) rest j.1 in
      omega (arith, step-adds step supply stack j.0, later)

  -- ---- in what steps scan

  -- a step that does not have the mark, or has it once, as the scan of a table whose mark it is
  data InStep (step : Step) : ℕ → Type 0 where
    none : InStep step 0
    found : (table : ℕ) → step ≡ Scan table → At table 0 → InStep step 1

  module _ (inputs : List InputTable) (p : Each NoSheetColumn inputs) where
    abbrev scans : Step → ℕ
    scans step = in_scan (all_with_marks 0 inputs) step

    -- each step is of that kind
    in_step : (step : Step) → InStep step (scans step)
    unfolding scanned
    in_step (Scan table) = of-table (rw (zero-add table) at (own_at inputs 0 table p))
      where
        of-table : {n : ℕ} → Own table 0 n → InStep (Scan table) n
        of-table nowhere = none
        of-table (once r) = found table refl r
    in_step Union = none
    in_step (Join left right) = none
    in_step (Filter column comparison operand) = none
    in_step (Keep mask) = none
    in_step (Apply column transform) = none
    in_step (Group keys aggregate column) = none
    in_step (Noise column) = none

    -- no other table has the mark of a table
    no_other : (table : ℕ) → At table 0 → (steps : List Step) → Each (λ step. ¬ (step ≡ Scan table)) steps → total scans steps ≡ 0
    no_other table r [] n = refl
    no_other table r (step ∷ rest) n = omega (arith, differs n.0 (in_step step), no_other table r rest n.1)
      where
        differs : ¬ (step ≡ Scan table) → {m : ℕ} → InStep step m → m ≡ 0
        differs n none = refl
        differs n (found other e s) =
            let same = marks-of-their-own.0 other s.0 table r.0 s.2 r.2 (sym s.3 ∙ r.3) in
            absurd (n (e ∙ ap Scan same.0))

    -- where no table is scanned twice the mark is scanned at most once
    scanned-once : (steps : List Step) → ScansOnce steps → total scans steps ≤ 1
    scanned-once [] s = omega arith
    scanned-once (step ∷ rest) s = here-or-later (in_step step) (scanned-once rest s.1)
      where
        here-or-later : {n : ℕ} → InStep step n → total scans rest ≤ 1 → n + total scans rest ≤ 1
        here-or-later none h = omega arith
        here-or-later (found table e r) h = omega (arith, no_other table r rest (each_weaken _ _ (λ other f. f table e) rest s.0))

pub sheets-are-rows : SheetsAreRows
sheets-are-rows inputs draws earlier keys p j s =
    let supply = supplied (all_with_marks 0 inputs) draws in
    let stack = stack_left supply [] earlier in
    groups-count keys (top stack).columns (top stack).rows (λ mark.
    omega (arith, one-taken mark stack, steps-add mark supply [] earlier j, scanned-once mark inputs p earlier s))
