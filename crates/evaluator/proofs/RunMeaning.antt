-- A run is the monitor. Assumes nothing.
use Prim.Native.Nat.{ℕ, ◌≤◌, ◌<◌}
use mathlib.Core.Path.{◌≡◌, refl, sym, ap, ap₂, ◌∙◌}
use mathlib.Core.Bool.{Bool, true, false, cond, ◌&&◌, and-false, and-eq-true_iff}
use mathlib.Core.List.{List, ◌++◌}
use native.Mathlib.Omega.{arith}
use lib.Dec.{leb}
use lib.IntN.{ℤ, pos}
use lib.ListN.{length, drop, replicate}
use borrow.Author.Tests.{leb-true, le-leb, lt-leb}
use Rattle.cells.specs.promises.Work.{Memory, room, mark_room}
use Rattle.input.specs.Answers.{input_tells}
use Rattle.input.specs.Verdict.{rejected}
use Rattle.input.specs.declared.InputRefusal.{InputRefusal}
use Rattle.demands.specs.Answers.{Told, refused_input, refused_state}
use Rattle.demands.specs.Given.{Given, year_given, check_given, plan_given}
use Rattle.demands.specs.Lent.{Lent, lent, enough}
use Rattle.demands.specs.Monitor.{evaluation, with_text, run_outcome, ended, monitor}
use Rattle.evaluator.proofs.Ends.{Ends}
use Rattle.memory.specs.Refusals.{refusal_tells}
use Rattle.memory.specs.declared.Refusal.{Refusal}
use Rattle.plan.specs.Evaluate.{refuse}
use Rattle.release.specs.declared.ReleaseRefusal.{ReleaseRefusal}
use Rattle.std.specs.Prelude.{Result, Ok, Err}
use Rattle.release.specs.promises.Release.{release_reply, Releases}
use Rattle.run_answers.specs.promises.Releases.{release_tells}
use Rattle.zeros.specs.Zeros.{filled}
use Rattle.zeros.specs.promises.Zeros.{Cleared}
use Rattle.walk.specs.declared.Finished.{Finished}
use Rattle.walk.specs.declared.WalkRefusal.TheVariants.{Step}
use Rattle.walk.specs.promises.Walk.{room_in, Stepped, Walked}
use Rattle.input.proofs.Numbers.{input-tells}
use Rattle.demands.proofs.Columns.{top-some}
use Rattle.demands.proofs.Runs.{short-keeps-all as short-run, input-run, begun-run}
use Rattle.memory.proofs.Finish.{verdicts}
use Rattle.zeros.proofs.Laws.{filled_is}
use Rattle.evaluator.proofs.ReleaseMeaning.{release-ends}

swap : (a b c : Bool) → (a && b) && c ≡ (a && c) && b
swap true true true = refl
swap true true false = refl
swap true false true = refl
swap true false false = refl
swap false b c = refl

filled-same : {A : Type 0} (count : ℕ) (x : A) (old new : List A) → drop count new ≡ drop count old → filled count x new ≡ filled count x old
filled-same {A} count x old new e = filled_is count x new ∙ ap (λ (l : List A). replicate count x ++ l) e ∙ sym (filled_is count x old)

-- what a run comes to, as the answer, the output and the text have it, after a walk
pub record Evaluated (given : Given) (w : Memory) (o : List ℤ) (t x : List ℕ) (told : Told) (w₁ : Memory) (o₁ : List ℤ) (t₁ x₁ : List ℕ) : Type 0 where
  pub stepped : Stepped given w t w₁ t₁
  pub ends : Ends (with_text (length (plan_given given)) (length x) (evaluation (year_given given) given).outcome) o x told o₁ x₁

-- the slices of a run whose work memory this is
abbrev lent_of : Memory → List ℤ → List ℕ → List ℕ → Lent
lent_of w o t x = lent w.work.values w.work.labels w.marks o t x

module _ (given : Given) (w : Memory) (o : List ℤ) (t x : List ℕ) where
  abbrev lends : Lent
  lends = lent_of w o t x

  -- a run needs what a walk needs, and an output
  enough-is : enough lends ≡ room_in w t && leb 2048 (length o)
  enough-is = swap (leb 8192 (length w.work.values) && leb 8192 (length w.work.labels) && leb 1024 (length w.marks)) (leb 2048 (length o)) (leb 256 (length t))

  pub output-short : length o < 2048 → ended (refused_state 1 0 0 0) lends ≡ monitor given lends
  output-short h = sym (short-run given lends (enough-is ∙ rw (lt-leb 2048 (length o) h) (and-false (room_in w t))))

  module _ (long : 2048 ≤ length o) {w₁ : Memory} {t₁ : List ℕ} where
    -- the slices are as they were
    unchanged : (told : Told) → w₁ ≡ w → t₁ ≡ t → ended told (lent_of w₁ o t₁ x) ≡ ended told lends
    unchanged told = ap₂ (λ (w : Memory) (t : List ℕ). ended told (lent_of w o t x))

    pub work-short : (room_in w t ≡ false) × (w₁ ≡ w) × (t₁ ≡ t) → ended (refused_state 1 0 0 0) (lent_of w₁ o t₁ x) ≡ monitor given lends
    work-short s = unchanged (refused_state 1 0 0 0) s.1 s.2 ∙ sym (short-run given lends (enough-is ∙ rw s.0))

    pub input-refused : (refusal : InputRefusal) → (room_in w t ≡ true) × (input_tells rejected refusal ≡ check_given given) × (w₁ ≡ w) × (t₁ ≡ t)
        → ended (input_tells refused_input refusal) (lent_of w₁ o t₁ x) ≡ monitor given lends
    input-refused refusal s =
        let n = input-tells refusal in
        let enough-so : enough lends ≡ true = enough-is ∙ rw (s.0, le-leb 2048 (length o) long) in
        unchanged (input_tells refused_input refusal) s.2 s.3
        ∙ ap (λ (told : Told). ended told lends) (n.tells refused_input)
        ∙ sym (input-run given lends n.number n.place enough-so (sym s.1 ∙ n.tells rejected))

    pub step-refused : (step : ℕ) (refusal : Refusal) → Walked given w t (Err (Step step refusal)) w₁ t₁
        → Evaluated given w o t x (refusal_tells (λ number row column. refused_state number step row column) refusal) w₁ o t₁ x
    step-refused step refusal s =
        let n = verdicts refusal in
        let outcome = s.1 ∙ n.tells (λ number row column. refuse number step row column) in
        record {
          stepped = s.0;
          ends = rw outcome (record { told_is = n.tells (λ number row column. refused_state number step row column); output-is = refl; text-is = refl });
        }

    -- the table that is left has a column
    some-columns : {end : Finished} → Walked given w t (Ok end) w₁ t₁ → 1 ≤ end.columns
    some-columns s = rw s.1.table_is at (top-some (year_given given) given s.0.accepted-is)

    -- what a walk needs is still there
    still-long : Stepped given w t w₁ t₁ → (room ≤ length w₁.work.values) × (room ≤ length w₁.work.labels) × (mark_room ≤ length w₁.marks)
    still-long s =
        let two = leb room (length w.work.values) && leb room (length w.work.labels) in
        let a = (and-eq-true_iff (two && leb mark_room (length w.marks)) (leb 256 (length t))).0 s.long in
        let m = (and-eq-true_iff two (leb mark_room (length w.marks))).0 a.0 in
        let b = (and-eq-true_iff (leb room (length w.work.values)) (leb room (length w.work.labels))).0 m.0 in (
          omega (arith, leb-true room (length w.work.values) b.0, s.kept.work.as-many-values),
          omega (arith, leb-true room (length w.work.labels) b.1, s.kept.work.as-many-labels),
          omega (arith, leb-true mark_room (length w.marks) m.1, s.kept.marks.as_many),
        )

    -- the release of the table that is left
    pub steps-released : (end : Finished) {told : Told} {answer : Result ℕ ReleaseRefusal} {o₁ : List ℤ} {x₁ : List ℕ} → Walked given w t (Ok end) w₁ t₁
        → Releases (release_reply w₁.work o x end.rows end.columns) w₁.work.values o x end.rows end.columns answer o₁ x₁ → told ≡ release_tells end.steps end.rows end.columns answer
        → Evaluated given w o t x told w₁ o₁ t₁ x₁
    steps-released end {answer = answer} s r e =
        let n = still-long s.0 in
        record {
          stepped = s.0;
          ends = rw (← s.1.all-taken, s.1.outcome, e) (release-ends w₁.work w₁.marks end.rows end.columns end.steps s.1.few-rows s.1.few-columns n.0 n.1 n.2 (some-columns s) o long x answer r);
        }

    -- the evaluation, and then zeros
    pub run-begun : {told : Told} {o₁ : List ℤ} {x₁ : List ℕ} {w₂ : Memory} {cleared : Bool} → Evaluated given w o t x told w₁ o₁ t₁ x₁
        → Cleared w₁ cleared w₂ → ended told (lent_of w₂ o₁ t₁ x₁) ≡ monitor given lends
    unfolding run_outcome
    run-begun {cleared = cleared} e c =
        let s = e.stepped in
        let n = still-long s in
        let yes : cleared ≡ true = c.told ∙ rw (le-leb 8192 (length w₁.work.values) n.0, le-leb 8192 (length w₁.work.labels) n.1, le-leb 1024 (length w₁.marks) n.2) in
        let vs = c.values ∙ ap (λ (b : Bool). cond b (filled 8192 (pos 0) w₁.work.values) w₁.work.values) yes ∙ filled-same 8192 (pos 0) w.work.values w₁.work.values s.kept.work.values-past in
        let ls = c.labels ∙ ap (λ (b : Bool). cond b (filled 8192 0 w₁.work.labels) w₁.work.labels) yes ∙ filled-same 8192 0 w.work.labels w₁.work.labels s.kept.work.labels-past in
        let ms = c.marks ∙ ap (λ (b : Bool). cond b (filled 1024 0 w₁.marks) w₁.marks) yes ∙ filled-same 1024 0 w.marks w₁.marks s.kept.marks.past in
        let long-is : enough lends ≡ true = enough-is ∙ rw (s.long, le-leb 2048 (length o) long) in
        (λ i. record {
          answer = e.ends.told_is i;
          left = record { values = vs i; labels = ls i; marks = ms i; output = e.ends.output-is i; trace = s.traced i; text = e.ends.text-is i };
        })
        ∙ sym (begun-run (year_given given) given lends (record { long = long-is; accepted-is = s.accepted-is; year-is = refl }))
