-- The plan of an accepted container. Assumes nothing.
use Prim.Native.Nat.{ℕ, zero, suc, ◌+◌, ◌-◌, ◌*◌, ◌%◌, ◌≤◌, ◌<◌}
use mathlib.Core.Path.{◌≡◌, refl, sym, ap, ◌∙◌}
use mathlib.Core.Bool.{true, not, ◌&&◌, and-eq-true_iff}
use mathlib.Core.List.{List, [], ◌∷◌, map}
use native.Mathlib.Nat.{zero-add, add-zero, add-suc, suc-add}
use native.Mathlib.Omega.{arith}
use lib.Dec.{eqb, leb}
use lib.ListN.{length, get_or, drop, length-drop}
use borrow.Author.Tests.{leb-true, eqb-true, not-false}
use Rattle.std.specs.Prelude.{Option, Some, None}
use Rattle.accepted.specs.Accepted.{StepsCounted, StepsFound, Placed, PlanPlaced}
use Rattle.container.specs.Check.{accepted, table_widths, check_input}
use Rattle.container.specs.Contents.{steps_from, plan_of, tables_from, input_tables, tables_of}
use Rattle.layout.specs.Layout.{part_count, offset_of, part_of}
use Rattle.plan.specs.Sheets.{with_marks, all_with_marks}
use Rattle.plan.specs.Steps.{takes}
use Rattle.plan.specs.Widths.{enough_tables, placed, made_columns}
use Rattle.plan.specs.declared.Step.{Step}
use Rattle.plan.specs.declared.Step.TheVariants.{Union}
use Rattle.plan_check.specs.PlanCheck.{check_found, check_steps, check_plan}
use Rattle.plan_part.specs.PlanPart.{step_count, length_fits}
use Rattle.records.specs.Record.{fields_at, step_of}
use Rattle.table_part.specs.TablePart.{columns_of, table_of}
use Rattle.accepted.proofs.AcceptedTables.{checks}
use Rattle.input.proofs.Laws.{never, not_so, passed}
use Rattle.kinds.proofs.Laws.{enough-room}
use Rattle.plan_part.proofs.Laws.{step-there}

-- the stack after a step with enough tables
after-low : (step : Step) (stack : List ℕ) (made : ℕ) → length stack ≤ 3 → enough_tables step (length stack) ≡ true → length (made ∷ drop (takes step) stack) ≤ 3
after-low step stack made h e = omega (arith, enough-room step (length stack) h e, length-drop (takes step) stack)

-- what the steps from one on are
record Walked (part : List ℕ) (step more : ℕ) (tables stack : List ℕ) : Type 0 where
  count : length (steps_from part step more) ≡ more
  steps : (k : ℕ) → k < more → step_of (fields_at part (step + k)) ≡ Some (get_or (steps_from part step more) k Union)
  places : length stack ≤ 3 → Placed tables stack (steps_from part step more)

-- one step before them
more-steps : (part : List ℕ) (step more : ℕ) (tables stack : List ℕ) (next : Step) → step_of (fields_at part step) ≡ Some next
    → enough_tables next (length stack) ≡ true → placed next tables stack ≡ true
    → Walked part (suc step) more tables (made_columns next tables stack ∷ drop (takes next) stack) → Walked part step (suc more) tables stack
more-steps part step more tables stack next s t p w = record {
  count = rw s (ap suc w.count);
  steps = steps;
  places = λ h. rw s (h, t, p, w.places (after-low next stack (made_columns next tables stack) h t));
}
  where
    steps : (k : ℕ) → k < suc more → step_of (fields_at part (step + k)) ≡ Some (get_or (steps_from part step (suc more)) k Union)
    steps zero h = rw (add-zero step, s)
    steps (suc k) h = rw (add-suc step k ∙ sym (suc-add step k), s) (w.steps k (omega arith))

module _ (part : List ℕ) (at : ℕ) (tables : List ℕ) where
  walked : (more step : ℕ) (stack : List ℕ) → check_steps part at step more tables stack ≡ accepted → Walked part step more tables stack
  walked zero step stack e = record {
    count = refl;
    steps = λ k h. absurd (omega arith);
    places = λ h. eqb-true (length stack) 1 (not-false _ (not_so (not (eqb (length stack) 1)) 18 _ e));
  }
  walked (suc more) step stack e = go (walked more (suc step)) (step_of (fields_at part step)) refl e
    where
      go : ((s : List ℕ) → check_steps part at (suc step) more tables s ≡ accepted → Walked part (suc step) more tables s)
          → (f : Option Step) → step_of (fields_at part step) ≡ f
          → check_found f (at + 16 * step) tables stack
          (λ next. check_steps part at (suc step) more tables (made_columns next tables stack ∷ drop (takes next) stack)) ≡ accepted
          → Walked part step (suc more) tables stack
      go later (Some next) s c =
          let t = passed (not (enough_tables next (length stack))) 18 (at + 16 * step) _ c in
          let p = passed (not (placed next tables stack)) 19 (at + 16 * step) _ t.1 in
          more-steps part step more tables stack next s (not-false _ t.0) (not-false _ p.0)
          (later (made_columns next tables stack ∷ drop (takes next) stack) p.1)
      go later None s c = absurd (never 17 _ c)

widths-of : (bytes : List ℕ) (table part more : ℕ) → table_widths bytes part more ≡ map (λ table. table.columns) (all_with_marks table (tables_from bytes part more))
unfolding table_of with_marks
widths-of bytes table part zero = refl
widths-of bytes table part (suc more) = ap (λ (rest : List ℕ). columns_of (part_of bytes part) ∷ rest) (widths-of bytes (suc table) (suc part) more)

module _ (bytes : List ℕ) (e : check_input bytes ≡ accepted) where
  plan : List ℕ
  plan = part_of bytes 0

  widths : List ℕ
  widths = table_widths bytes 1 (part_count bytes - 1)

  fits : (length_fits plan ≡ true) × (check_steps plan (offset_of bytes 0) 0 (step_count plan) widths [] ≡ accepted)
  unfolding check_plan plan widths
  fits =
      let p = passed (not (length_fits (part_of bytes 0))) 16 (offset_of bytes 0) _ (checks bytes e).plan in
      (not-false _ p.0, p.1)

  all : Walked plan 0 (step_count plan) widths []
  all = walked plan (offset_of bytes 0) widths (step_count plan) 0 [] fits.1

pub steps-counted : StepsCounted
unfolding length_fits plan_of plan
steps-counted bytes e =
    let n = step_count (part_of bytes 0) in
    let a = (and-eq-true_iff (eqb (length (part_of bytes 0) % 16) 0 && leb 1 n) (leb n 64)).0 (fits bytes e).0 in
    let b = (and-eq-true_iff (eqb (length (part_of bytes 0) % 16) 0) (leb 1 n)).0 a.0 in
    (leb-true 1 n b.1, leb-true n 64 a.1, (all bytes e).count)

pub steps-found : StepsFound
unfolding plan_of plan
steps-found bytes e k h = step-there (part_of bytes 0) k h ∙ (rw (zero-add k) at ((all bytes e).steps k h))

pub plan-placed : PlanPlaced
unfolding plan_of tables_of input_tables plan widths
plan-placed bytes e = rw (← widths-of bytes 0 1 (part_count bytes - 1)) ((all bytes e).places (omega arith))
