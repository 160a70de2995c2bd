-- The walk along a plan: the steps over work memory go where the evaluation goes. Assumes nothing.
use Prim.Native.Nat.{ℕ, zero, suc, ◌+◌, ◌-◌, ◌*◌, ◌≤◌, ◌<◌}
use mathlib.Core.Path.{◌≡◌, refl, sym, ap, ap₂, subst, ◌∙◌}
use mathlib.Core.Bool.{true, cond, ◌&&◌, and-eq-true_iff}
use mathlib.Core.List.{List, [], ◌∷◌, ◌++◌, map, append-nil}
use native.Mathlib.Omega.{arith}
use lib.ListN.{length, get_or, drop, length-append, length-drop, length-map}
use lib.Seq.{drop-drop}
use native.Mathlib.Numerals.{add-one}
use lib.Dec.{leb, ltb}
use borrow.Author.Tests.{leb-true, le-leb, lt-ltb}
use Rattle.accepted.specs.Accepted.{Placed, operation_exists}
use Rattle.input.specs.Verdict.{accepted}
use Rattle.layout.specs.Layout.{part_of}
use Rattle.cells.specs.promises.Labelled.{Labelled}
use Rattle.cells.specs.promises.Search.{says}
use Rattle.cells.specs.promises.Work.{Memory, cells_in, room, mark_room, AllKept}
use Rattle.memory.specs.promises.Stack.{ready, Ready, slot, mark_slot, mark_part, no_table, table_in, tables_to, stack_in, widths_to, no_tables, live_at, live_table}
use Rattle.live_tables.specs.declared.LiveTable.{LiveTable}
use Rattle.memory.specs.declared.Refusal.{Refusal}
use Rattle.memory.specs.promises.Steps.{error_says, verdict, widths_of, Done}
use Rattle.memory.specs.declared.StepError.{StepError}
use Rattle.memory.specs.declared.StepError.TheVariants as error
use Rattle.live_tables.specs.declared.Stack.{Stack}
use Rattle.std.specs.Prelude.{Ok, Err}
use Rattle.plan.specs.Evaluate.{Outcome, Result, release, refuse, check_release, ending, behind, evaluate_from, evaluate}
use Rattle.plan.specs.Supply.{Supply, supplied, without_draws}
use Rattle.plan.specs.Table.{Each, Table, top, grid}
use Rattle.plan.specs.Sense.Trace.{stack_left}
use Rattle.plan.specs.Steps.{takes, check, make, too_many, draws_used, supply_after}
use Rattle.plan.specs.Trace.{Line, line_of, flat_lines}
use Rattle.plan.specs.Verdict.{Verdict, fine, refused, or_else}
use Rattle.plan.specs.Widths.{enough_tables, placed}
use Rattle.plan.specs.declared.Step.{Step}
use Rattle.plan.specs.declared.Step.TheVariants.{Union}
use Rattle.plan_part.specs.PlanPart.{step_count}
use Rattle.trace_lines.specs.promises.Lines.{with_line}
use Rattle.demands.specs.Monitor.{evaluation, written}
use Rattle.walk.specs.promises.Steady.{Steady}
use Rattle.walk.specs.promises.Walk.{room_in, step_number, before, left_given, Going, finish, Walked}
use Rattle.walk.specs.declared.WalkRefusal.TheVariants as refusal
use Rattle.accepted.proofs.AcceptedOperations.{operations-exist}
use Rattle.accepted.proofs.AcceptedPlan.{steps-counted}
use Rattle.demands.proofs.Prepared.{container-ok, placed-given}
use Rattle.walk.proofs.LabelledSteps.{make-labelled, tables-labelled}
use Rattle.demands.proofs.Widths.{placed-after}
use Rattle.plan.proofs.SenseEach.{each-drop}
use Rattle.cells.proofs.Rows.{marked-length}
use Rattle.cells.proofs.CellLaws.{all_none, kept_then, marks_then}
use Rattle.memory.proofs.Finish.{says_is, never-unfit, verdicts}
use Rattle.memory.proofs.Stacks.{is-ready, to-ready, widths-are, stack-length, marks-count}
use Rattle.plan.proofs.SenseNoise.{draws-enough}
use Rattle.plan.proofs.SenseShape.{each-get}
use Rattle.trace_lines.proofs.Laws.{lines-length, line-fits, line-behind}
use Rattle.demands.specs.Given.{Given, year_given, check_given, plan_given, prepared}

-- ---- lists

module _ {A : Type 0} where
  pub drop-next : (xs : List A) (n : ℕ) (d : A) → n < length xs → drop n xs ≡ get_or xs n d ∷ drop (suc n) xs
  drop-next [] n d h = absurd (omega arith)
  drop-next (x ∷ xs) zero d h = refl
  drop-next (x ∷ xs) (suc n) d h = drop-next xs n d (omega arith)

  drop-none : (xs : List A) → drop (length xs) xs ≡ []
  drop-none [] = refl
  drop-none (x ∷ xs) = drop-none xs

-- ---- results

before_more : (lines : List Line) (line : Line) (later : Result) → before (lines ++ (line ∷ [])) later ≡ before lines (behind line later)
before_more [] line later = refl
before_more (first ∷ rest) line later = ap (behind first) (before_more rest line later)

before-outcome : (lines : List Line) (later : Result) → (before lines later).outcome ≡ later.outcome
before-outcome [] later = refl
before-outcome (line ∷ rest) later = before-outcome rest later

before-trace : (lines : List Line) (later : Result) → (before lines later).trace ≡ lines ++ later.trace
before-trace [] later = refl
before-trace (line ∷ rest) later = ap (λ (l : List Line). line ∷ l) (before-trace rest later)

ending-or : (u w : Verdict) (step : ℕ) (onward : Result) → ending (or_else u w) step onward ≡ ending u step (ending w step onward)
ending-or fine w step onward = refl
ending-or (refused number row column) w step onward = refl

-- neither refuses where the first refusal of two is none
or-fine-left : (u w : Verdict) → or_else u w ≡ fine → u ≡ fine
or-fine-left fine w e = refl
or-fine-left (refused number row column) w e = e

-- no lines behind the end
end-trace : (v : Verdict) (step : ℕ) (outcome : Outcome) → (ending v step (record { outcome = outcome; trace = [] })).trace ≡ []
end-trace fine step outcome = refl
end-trace (refused number row column) step outcome = refl

-- the evaluation behind a step that is finished
abbrev past : Supply → ℕ → List Table → Step → List Step → Result
past supply step stack next later =
    behind (line_of next (make next supply stack)) (evaluate_from (supply_after next stack supply) (suc step) (make next supply stack ∷ drop (takes next) stack) later)

evaluate-next : (supply : Supply) (step : ℕ) (stack : List Table) (next : Step) (later : List Step)
    → evaluate_from supply step stack (next ∷ later) ≡ ending (verdict next supply stack) step (past supply step stack next later)
unfolding evaluate_from
evaluate-next supply step stack next later =
    sym (ending-or (check next (length supply.draws) (map grid stack)) (too_many next (make next supply stack)) step (past supply step stack next later))

evaluate-end : (supply : Supply) (step : ℕ) (stack : List Table)
    → evaluate_from supply step stack [] ≡ ending (check_release (top stack)) step (record { outcome = release (top stack); trace = [] })
unfolding evaluate_from
evaluate-end supply step stack = refl

-- ---- draws

-- what a step uses, of what is left when so many are used
used-more : (given : Given) (used n : ℕ) → without_draws n (left_given given used) ≡ left_given given (used + n)
used-more given used n =
    ap (supplied (prepared (year_given given) given)) (drop-drop n used given.draws)

-- the rows of the table on top, as `live_table` gives them
pub top-rows : {values labels : ℕ} (w : Memory) (stack : Stack) → Ready values labels stack → mark_room ≤ length w.marks → {table : LiveTable} → table ≡ live_table stack 0 → table.rows ≡ length (top (stack_in w stack)).rows
unfolding live_table
top-rows w stack r marks {table} e = ap (λ (t : LiveTable). t.rows) e ∙ go stack.depth r.depth
  where
    go : (depth : ℕ) → depth ≤ 3 → (cond (leb depth 3 && ltb 0 depth) (live_at stack (depth - 1 - 0)) no_table).rows ≡ length (top (tables_to w stack depth)).rows
    go zero h = refl
    go (suc depth) h =
        let d : suc depth - 1 - 0 ≡ depth = omega arith in
        rw (le-leb (suc depth) 3 h, lt-ltb 0 (suc depth) (omega arith), d) (sym (marked-length (get_or stack.columns depth 0) (mark_part w.marks (mark_slot depth) (get_or stack.rows depth 0)) (drop (slot depth) (cells_in w.work))
        ∙ marks-count w.marks (mark_slot depth) (get_or stack.rows depth 0) (omega (arith, r.rows depth h))))

-- the trace of so many lines, as a run leaves it
lines-written : (lines : List Line) (t₀ t : List ℕ) → t ≡ flat_lines lines ++ drop (4 * length lines) t₀ → t ≡ written (flat_lines lines) t₀
lines-written lines t₀ t e = e ∙ ap (λ (n : ℕ). flat_lines lines ++ drop n t₀) (sym (lines-length lines))

-- the number of steps, as the readers give it
pub count-is : (given : Given) → check_given given ≡ accepted → {part : List ℕ} → part ≡ part_of given.container 0 → {count : ℕ} → count ≡ step_count part
    → (count ≡ length (plan_given given)) × (count ≤ 64)
count-is given ok p e = let n = e ∙ ap step_count p in let few = steps-counted given.container (container-ok given ok) in (n ∙ sym few.2, omega (arith, n, few))

-- the lengths that are tested
rooms : (w : Memory) (t : List ℕ) → room_in w t ≡ true
    → (leb room (length w.work.values) ≡ true) × (leb room (length w.work.labels) ≡ true) × (leb 256 (length t) ≡ true) × (mark_room ≤ length w.marks)
rooms w t e =
    let two = leb room (length w.work.values) && leb room (length w.work.labels) in
    let a = (and-eq-true_iff (two && leb mark_room (length w.marks)) (leb 256 (length t))).0 e in
    let m = (and-eq-true_iff two (leb mark_room (length w.marks))).0 a.0 in
    let b = (and-eq-true_iff (leb room (length w.work.values)) (leb room (length w.work.labels))).0 m.0 in
    (b.0, b.1, a.1, leb-true mark_room (length w.marks) m.1)

pub all_then : {first then last : Memory} → AllKept first then → AllKept then last → AllKept first last
all_then a b = record { work = kept_then a.work b.work; marks = marks_then a.marks b.marks }

module _ {given : Given} (ok : check_given given ≡ accepted) {w₀ : Memory} {t₀ : List ℕ} (long : room_in w₀ t₀ ≡ true) where
  begun : Going given w₀ t₀ 0 0 w₀ t₀ no_tables
  unfolding no_tables evaluation evaluate ready
  begun = record {
    kept = all_none w₀;
    is-ready = is-ready (length w₀.work.values) (length w₀.work.labels) no_tables (rw ((rooms w₀ t₀ long).0, (rooms w₀ t₀ long).1));
    labelled = tt;
    lines = [];
    finished = refl;
    traced = refl;
    places = placed-given (year_given given) given ok;
    drawn = omega arith;
    onward = refl;
    to-come = refl;
  }

  pub go-begin : {stack : Stack} → stack ≡ no_tables → Going given w₀ t₀ 0 0 w₀ t₀ stack
  go-begin e = subst (Going given w₀ t₀ 0 0 w₀ t₀) (sym e) begun

  module _ {index used : ℕ} {w : Memory} {t : List ℕ} {stack : Stack} (g : Going given w₀ t₀ index used w t stack) where
    abbrev tables : List Table
    tables = prepared (year_given given) given

    abbrev supply : Supply
    supply = left_given given used

    abbrev live : List Table
    live = stack_in w stack

    abbrev next : Step
    next = step_number given index

    abbrev rest : List Step
    rest = drop (suc index) (plan_given given)

    -- the marks are as many as they were
    pub go-marks : mark_room ≤ length w.marks
    go-marks = omega (arith, (rooms w₀ t₀ long).3, g.kept.marks.as_many)

    module _ (h : index < length (plan_given given)) where
      places-next : Placed (widths_of tables) (widths_of live) (next ∷ rest)
      places-next = subst (Placed (widths_of tables) (widths_of live)) (drop-next (plan_given given) index Union h) g.places

      -- the trace has room for the step's line
      pub go-room : 4 * index + 4 ≤ length t
      go-room =
          let few = steps-counted given.container (container-ok given ok) in
          let fit = leb-true (4 * length g.lines + 4) (length t) (line-fits g.lines t t₀ g.traced (omega (arith, few, g.finished, leb-true 256 (length t₀) (rooms w₀ t₀ long).2))) in
          omega (arith, fit, g.finished)

      pub go-steady : Steady given next w stack
      go-steady =
          let depth : length (widths_of live) ≡ stack.depth = length-map live (λ table. table.columns) ∙ stack-length w stack stack.depth in
          let enough : enough_tables next stack.depth ≡ true = ap (enough_tables next) (sym depth) ∙ places-next.1 in
          let there : placed next (widths_of tables) (widths_to stack stack.depth) ≡ true
          = ap (placed next (widths_of tables)) (sym (widths-are w stack stack.depth)) ∙ places-next.2 in
          record {
            accepted-is = ok;
            fits-is = rw (le-leb mark_room (length w.marks) go-marks, to-ready (length w.work.values) (length w.work.labels) stack g.is-ready, enough, there);
            exists = each-get (λ step. operation_exists step ≡ true) (plan_given given) index Union refl (operations-exist given.container (container-ok given ok));
            labelled = g.labelled;
          }

      -- the evaluation, from this step on
      evaluates : evaluation (year_given given) given
          ≡ before g.lines (ending (verdict next supply live) index (past supply index live next rest))
      evaluates =
          g.onward
          ∙ ap (before g.lines) (ap (evaluate_from supply index live) (drop-next (plan_given given) index Union h) ∙ evaluate-next supply index live next rest)

      -- what a step answers that makes no table
      module _ {wrong : StepError} {w' : Memory} (says_so : error_says wrong ≡ says (verdict next supply live)) (kept-so : AllKept w w') where
        -- a step always fits
        pub go-fits : wrong ≡ error.DoesNotFit → ⊥
        go-fits e = never-unfit (sym (ap error_says e) ∙ says_so)

        -- a refused step: the evaluation is refused at it
        pub go-refused : (why : Refusal) → wrong ≡ error.Refused why → Walked given w₀ t₀ (Err (refusal.Step index why)) w' t
        go-refused why e =
            let v = verdicts why in
            let comes : evaluation (year_given given) given ≡ before g.lines (record { outcome = refuse v.number index v.row v.column; trace = [] })
            = evaluates ∙ ap (λ (r : Verdict). before g.lines (ending r index (past supply index live next rest))) (says_is (sym says_so ∙ ap error_says e) ∙ v.is) in
            let traces : (evaluation (year_given given) given).trace ≡ g.lines = ap (λ (r : Result). r.trace) comes ∙ before-trace g.lines _ ∙ append-nil g.lines in (
              record {
                long = long;
                accepted-is = ok;
                kept = all_then g.kept kept-so;
                traced = lines-written g.lines t₀ t g.traced ∙ ap (λ (lines : List Line). written (flat_lines lines) t₀) (sym traces);
              },
              ap (λ (r : Result). r.outcome) comes ∙ before-outcome g.lines _ ∙ sym (v.tells (λ number row column. refuse number index row column)),
            )

      -- a step that has made its table, and its line behind those before it
      module _ {made : Stack} {w' : Memory} (d : Done next supply w stack (Ok made) w') where
        allowed : verdict next supply live ≡ fine
        allowed = says_is (sym (d.answer go-steady.fits-is))

        after : stack_in w' made ≡ make next supply live ∷ drop (takes next) live
        after = (d.made go-steady.fits-is allowed).tables-are

        -- there were draws for it
        pub go-drawn : (n : ℕ) → n ≡ draws_used next (length (top live).rows) → used + n ≤ length given.draws
        go-drawn n e =
            let few = draws-enough next (length supply.draws) live (or-fine-left _ _ allowed) in
            omega (arith, e, few, length-drop used given.draws, g.drawn)

        going_on : (t' : List ℕ) (n : ℕ) → n ≡ draws_used next (length (top live).rows) → t' ≡ with_line index (line_of next (top (stack_in w' made))) t
            → Going given w₀ t₀ (suc index) (used + n) w' t' made
        going_on t' n e a =
            let line = line_of next (make next supply live) in
            let count : length (g.lines ++ (line ∷ [])) ≡ length g.lines + 1 = length-append g.lines (line ∷ []) in
            let onwards : supply_after next live supply ≡ left_given given (used + n) = ap (λ (k : ℕ). without_draws k supply) (sym e) ∙ used-more given used n in
            record {
              kept = all_then g.kept d.kept;
              is-ready = is-ready (length w'.work.values) (length w'.work.labels) made (d.made go-steady.fits-is allowed).still;
              labelled = subst (Each Labelled) (sym after) (make-labelled next supply live (tables-labelled given ok) g.labelled, each-drop Labelled (takes next) live g.labelled);
              lines = g.lines ++ (line ∷ []);
              finished = omega (arith, count, g.finished);
              traced =
                  a ∙ ap₂ (λ (n : ℕ) (s : List Table). with_line n (line_of next (top s)) t) (sym g.finished) after ∙ line-behind g.lines t t₀ g.traced line
                  ∙ ap (λ (n : ℕ). flat_lines (g.lines ++ (line ∷ [])) ++ drop (4 * n) t₀) (sym count);
              places =
                  subst (λ (s : List ℕ). Placed (widths_of tables) s rest)
                  (ap widths_of (sym after)) (placed-after next rest supply live places-next);
              drawn = go-drawn n e;
              onward =
                  evaluates ∙ ap (λ (r : Verdict). before g.lines (ending r index (past supply index live next rest))) allowed ∙ sym (before_more g.lines line _)
                  ∙ ap₂ (λ (p : Supply) (s : List Table). before (g.lines ++ (line ∷ [])) (evaluate_from p (suc index) s rest)) onwards (sym after);
              to-come =
                  g.to-come ∙ ap (stack_left supply live) (drop-next (plan_given given) index Union h) ∙ ap₂ (λ (p : Supply) (s : List Table). stack_left p s rest) onwards (sym after);
            }

        pub go_on : (t' : List ℕ) (n : ℕ) → n ≡ draws_used next (length (top live).rows) → t' ≡ with_line index (line_of next (top (stack_in w' made))) t
            → Going given w₀ t₀ (index + 1) (used + n) w' t' made
        go_on t' n e a = subst (λ (i : ℕ). Going given w₀ t₀ i (used + n) w' t' made) (sym (add-one index)) (going_on t' n e a)

    -- all steps are finished, and one table is left
    pub go-end : (count : ℕ) → count ≡ length (plan_given given) → index ≡ count → {left : LiveTable} → left ≡ live_table stack 0
        → Walked given w₀ t₀ (Ok (record { steps = count; rows = left.rows; columns = left.columns })) w t
    unfolding live_table
    go-end count f e {left} l =
        let none : drop index (plan_given given) ≡ [] = ap (λ (n : ℕ). drop n (plan_given given)) (e ∙ f) ∙ drop-none (plan_given given) in
        let one : length (widths_of live) ≡ 1 = subst (Placed (widths_of tables) (widths_of live)) none g.places in
        let depth : stack.depth ≡ 1 = sym (length-map live (λ table. table.columns) ∙ stack-length w stack stack.depth) ∙ one in
        let first : left ≡ live_at stack 0 = l ∙ rw depth in
        let alone : live ≡ table_in w 0 left.columns left.rows ∷ [] = ap (tables_to w stack) depth ∙ ap (λ (t : LiveTable). table_in w 0 t.columns t.rows ∷ []) (sym first) in
        let comes : evaluation (year_given given) given ≡ before g.lines (ending (check_release (top live)) index (record { outcome = release (top live); trace = [] }))
        = g.onward ∙ ap (before g.lines) (ap (evaluate_from supply index live) none ∙ evaluate-end supply index live) in
        let traces : (evaluation (year_given given) given).trace ≡ g.lines
        = ap (λ (r : Result). r.trace) comes ∙ before-trace g.lines _ ∙ ap (λ (lines : List Line). g.lines ++ lines) (end-trace (check_release (top live)) index (release (top live))) ∙ append-nil g.lines in (
          record {
            long = long;
            accepted-is = ok;
            kept = g.kept;
            traced = lines-written g.lines t₀ t g.traced ∙ ap (λ (lines : List Line). written (flat_lines lines) t₀) (sym traces);
          },
          record {
            all-taken = f;
            few-rows = omega (arith, ap (λ (t : LiveTable). t.rows) first, g.is-ready.rows 0 (omega arith));
            few-columns = omega (arith, ap (λ (t : LiveTable). t.columns) first, g.is-ready.columns 0 (omega arith));
            table_is = g.to-come ∙ ap (stack_left supply live) none ∙ alone;
            outcome = ap (λ (r : Result). r.outcome) comes ∙ before-outcome g.lines _ ∙ ap₂ (λ (n : ℕ) (s : List Table). finish n (top s)) e alone;
          },
        )
