-- One turn of the loop over a plan's steps: what it knows after the step is taken. Assumes nothing.
use Prim.Native.Nat.{ℕ, ◌+◌, ◌-◌, ◌≤◌, ◌<◌}
use mathlib.Core.Path.{◌≡◌, refl, ap, ap₂, subst, ◌∙◌}
use mathlib.Core.Bool.{Bool, true}
use mathlib.Core.List.{List}
use native.Mathlib.Omega.{arith}
use lib.IntN.{ℤ}
use lib.ListN.{length, take, drop, length-drop}
use lib.Seq.{take_all}
use Rattle.std.specs.Prelude.{Ok, Err}
use Rattle.cells.specs.promises.Work.{Memory, memory_of, AllKept}
use Rattle.demands.specs.Given.{Given, year_given, check_given, plan_given}
use Rattle.input.specs.Verdict.{accepted}
use Rattle.live_tables.specs.declared.LiveTable.{LiveTable}
use Rattle.live_tables.specs.declared.Stack.{Stack}
use Rattle.memory.specs.declared.Refusal.{Refusal}
use Rattle.memory.specs.declared.StepError.TheVariants as error
use Rattle.memory.specs.promises.Stack.{live_table, stack_in}
use Rattle.plan.specs.Table.{top}
use Rattle.memory.specs.promises.Steps.{Done}
use Rattle.overlaying.specs.promises.Overlaying.{after_step}
use Rattle.plan.specs.Steps.{draws_used}
use Rattle.plan.specs.declared.Step.{Step}
use Rattle.step.specs.promises.Taking.{Taken}
use Rattle.walk_slices.specs.promises.Slices.{LineWritten}
use Rattle.walk.specs.declared.WalkRefusal.TheVariants as refusal
use Rattle.walk.specs.promises.Steady.{Steady}
use Rattle.walk.specs.promises.Walk.{room_in, step_number, left_given, Going, Walked}
use Rattle.walk.proofs.OneStep.{says_so, kept-so, done-so, line_made}
use Rattle.walk.proofs.Walking.{all_then, top-rows, go-marks, go-room, go-steady, go-drawn, go_on, go-fits, go-refused}

-- the draws that are left, as a part of the slice
pub rest-is : (draws : List ℤ) (used : ℕ) → take (length draws - used) (drop used draws) ≡ drop used draws
rest-is draws used = take_all (length draws - used) (drop used draws) (omega (arith, length-drop used draws))

module _ {given : Given} (ok : check_given given ≡ accepted) {w₀ : Memory} {t₀ : List ℕ} (long : room_in w₀ t₀ ≡ true) {index used : ℕ} {w : Memory} {t : List ℕ} {stack : Stack}
    (g : Going given w₀ t₀ index used w t stack) (h : index < length (plan_given given)) {known : Step} (k : known ≡ step_number given index) where
  steady : Steady given (step_number given index) w stack
  steady = go-steady ok long g h

  module _ {why : Refusal} {w' : Memory} (taking : Taken given.container (take (length given.draws - used) (drop used given.draws)) known w stack (Err (error.Refused why)) w') where
    refused-so : Taken given.container (drop used given.draws) known w stack (Err (error.Refused why)) w'
    refused-so = subst (λ (rest : List ℤ). Taken given.container rest known w stack (Err (error.Refused why)) w') (rest-is given.draws used) taking

    pub turn-refused : Walked given w₀ t₀ (Err (refusal.Step index why)) w' t
    turn-refused = go-refused ok long g h (says_so index used steady k refused-so) (kept-so index used steady k refused-so) why refl

    pub turn-kept : AllKept w₀ w'
    turn-kept = all_then g.kept (kept-so index used steady k refused-so)

  -- a step always fits
  pub turn-fits : {w' : Memory} → Taken given.container (take (length given.draws - used) (drop used given.draws)) known w stack (Err error.DoesNotFit) w' → ⊥
  turn-fits {w'} taking =
      let so = subst (λ (rest : List ℤ). Taken given.container rest known w stack (Err error.DoesNotFit) w') (rest-is given.draws used) taking in
      go-fits ok long g h (says_so index used steady k so) (kept-so index used steady k so) refl

  -- how many draws it uses
  pub turn-uses : {table : LiveTable} → table ≡ live_table stack 0 → {n : ℕ} → n ≡ draws_used known table.rows → n ≡ draws_used (step_number given index) (length (top (stack_in w stack)).rows)
  turn-uses e u = u ∙ ap₂ draws_used k (top-rows w stack g.is-ready (go-marks ok long g) e)

  module _ {made : Stack} {w' : Memory} (taking : Taken given.container (take (length given.draws - used) (drop used given.draws)) known w stack (Ok made) w')
      {year : ℕ} (y : year ≡ year_given given) {labels : List ℕ} (o : labels ≡ after_step year given.overlays known made w'.work.labels) where
    made-so : Taken given.container (drop used given.draws) known w stack (Ok made) w'
    made-so = subst (λ (rest : List ℤ). Taken given.container rest known w stack (Ok made) w') (rest-is given.draws used) taking

    over : labels ≡ after_step (year_given given) given.overlays known made w'.work.labels
    over = o ∙ ap (λ (year : ℕ). after_step year given.overlays known made w'.work.labels) y

    done : Done (step_number given index) (left_given given used) w stack (Ok made) (memory_of w'.work.values labels w'.marks)
    done = done-so index used steady k made-so (go-marks ok long g) over

    module _ {table : LiveTable} (e : table ≡ live_table stack 0) {n : ℕ} (u : n ≡ draws_used known table.rows) where
      pub turn-drawn : used + n ≤ length given.draws
      turn-drawn = go-drawn ok long g h done n (turn-uses e u)

      pub turn-on : {t' : List ℕ} {told : Bool} → LineWritten labels t made index known told t'
          → Going given w₀ t₀ (index + 1) (used + n) (memory_of w'.work.values labels w'.marks) t' made
      turn-on {t'} line = go_on ok long g h done t' n (turn-uses e u) (line_made index used steady k made-so (go-marks ok long g) over t (go-room ok long g h) line)
