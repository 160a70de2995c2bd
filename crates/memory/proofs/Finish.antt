-- The three ways in which a step ends: its arguments do not fit, it is refused, or it has made its table. Assumes nothing.
use Prim.Native.Nat.{ℕ, ◌+◌, ◌-◌, ◌≤◌, ◌<◌}
use mathlib.Core.Path.{◌≡◌, refl, sym, ap, ap₂, ◌∙◌}
use mathlib.Core.Bool.{Bool, true, false, cond, ◌&&◌, true≢false, and-false}
use mathlib.Core.List.{List, ◌∷◌, ◌++◌, map}
use native.Mathlib.Omega.{arith}
use lib.Dec.{leb}
use lib.ListN.{length, take, drop, length-map, take-append-drop}
use lib.Seq.{take_at}
use borrow.Author.Tests.{le-leb, lt-leb}
use Rattle.cells.specs.promises.Cells.{Wide}
use Rattle.plan.specs.Supply.{Supply}
use Rattle.plan.specs.Table.{Cell, flat, Each, Row, Table, rows_of}
use Rattle.cells.specs.promises.Search.{says, unfit}
use Rattle.cells.specs.promises.Work.{Work, Memory, cells_in, mark_room, Kept, MarksKept, AllKept}
use Rattle.cells.specs.promises.Written.{Written, CellsWritten}
use Rattle.std.specs.Prelude.{Result, Ok, Err, IsErrAnd}
use Rattle.cells.specs.declared.DoesNotFit.{DoesNotFit}
use Rattle.memory.specs.Refusals.{refusal_tells}
use Rattle.memory.specs.declared.Refusal.{Refusal}
use Rattle.memory.specs.declared.Refusal.TheVariants.{NotClear, Forbidden, OperandNotClear, TooMany, NoDraw}
use Rattle.live_tables.specs.declared.Stack.{Stack}
use Rattle.memory.specs.declared.StepError.{StepError}
use Rattle.memory.specs.declared.StepError.TheVariants as error
use Rattle.memory.specs.promises.Stack.{ready, Ready, last_slot, last_marks, slot, mark_slot, mark_part, table_in, stack_in, with_table, RowsAt, MarksAt}
use Rattle.memory.specs.promises.Steps.{refusal_says, error_says, verdict, leaves_rows, DoneWhere}
use Rattle.plan.specs.Steps.{takes, make}
use Rattle.plan.specs.Verdict.{Verdict, fine, refused, or_else}
use Rattle.plan.specs.declared.Step.{Step}
use Rattle.cells.proofs.CellLaws.{cells-length, marks-none, all_none}
use Rattle.cells.proofs.Rows.{rows-flat}
use Rattle.cells.proofs.Written.{as_long, below-written, from-written}
use Rattle.memory.proofs.Stacks.{to-ready, with-ready, stack-with}

pub or_nothing : (v : Verdict) → or_else v fine ≡ v
or_nothing fine = refl
or_nothing (refused number row column) = refl

pub says_is : {v w : Verdict} → says v ≡ says w → v ≡ w
says_is e = cc

pub never-unfit : {v : Verdict} → unfit ≡ says v → ⊥
never-unfit e = let z : ◌≡◌ {A = ℕ} 0 1 = cc in omega arith

clash : {b : Bool} {A : Type 0} → b ≡ true → b ≡ false → A
clash t f = absurd (true≢false (sym t ∙ f))

-- what a test of the labels found that refuses nothing
pub fine-parts : (b : Bool) {v : Verdict} → says fine ≡ cond b (says v) unfit → (b ≡ true) × (v ≡ fine)
fine-parts true e = (refl, sym (says_is e))
fine-parts false e = absurd (never-unfit (sym e))

-- what a `?` answers, or an error made by `into`
pub error-is : {A : Type 0} {done : Result A StepError} {wrong : StepError} → IsErrAnd done (λ found. found ≡ wrong) → done ≡ Err wrong
error-is {done = Ok made} e = absurd e
error-is {done = Err found} e = ap Err e

-- what a test of the arguments found
pub columns-fit : (b : Bool) (m : ℕ) {n : ℕ} {wrong : DoesNotFit} → cond b (Ok m) (Err wrong) ≡ Ok n → (b ≡ true) × (n ≡ m)
columns-fit true m e = (refl, cc)
columns-fit false m e = cc

pub columns-misfit : (b : Bool) (m : ℕ) {wrong found : DoesNotFit} → cond b (Ok m) (Err wrong) ≡ Err found → b ≡ false
columns-misfit true m e = cc
columns-misfit false m e = refl

never-fine : {number row column : ℕ} {A : Type 0} {v : Verdict} → v ≡ refused number row column → v ≡ fine → A
never-fine r f = let z : ◌≡◌ {A = ℕ} 0 1 = cc in absurd (omega arith)

-- every refusal has its number, row and column, and so its verdict
pub record Verdicts (refusal : Refusal) : Type 1 where
  pub number : ℕ
  pub row : ℕ
  pub column : ℕ
  pub tells : {A : Type 0} (tell : ℕ → ℕ → ℕ → A) → refusal_tells tell refusal ≡ tell number row column
  pub is : refusal_says refusal ≡ refused number row column

pub verdicts : (refusal : Refusal) → Verdicts refusal
verdicts (NotClear at) = record { number = 31; row = at.row; column = at.column; tells = λ tell. refl; is = refl }
verdicts (Forbidden at) = record { number = 32; row = at.row; column = at.column; tells = λ tell. refl; is = refl }
verdicts (OperandNotClear at) = record { number = 33; row = at.row; column = at.column; tells = λ tell. refl; is = refl }
verdicts TooMany = record { number = 34; row = 256; column = 0; tells = λ tell. refl; is = refl }
verdicts (NoDraw at) = record { number = 37; row = at.row; column = at.column; tells = λ tell. refl; is = refl }

-- the first refusal of two: nothing after a refusal counts
pub refusal-stands : (refusal : Refusal) {u : Verdict} (v : Verdict) → says (refusal_says refusal) ≡ says u → says (refusal_says refusal) ≡ says (or_else u v)
refusal-stands refusal v e =
    let r = verdicts refusal in
    e ∙ ap says (sym (ap (λ (w : Verdict). or_else w v) (sym (says_is e) ∙ r.is) ∙ sym (sym (says_is e) ∙ r.is)))

-- the same of the error of a test
pub error-stands : (wrong : StepError) {u : Verdict} (v : Verdict) → error_says wrong ≡ says u → error_says wrong ≡ says (or_else u v)
error-stands (error.Refused refusal) v e = refusal-stands refusal v e
error-stands error.DoesNotFit v e = absurd (never-unfit e)

pub goes_on : {u : Verdict} (v : Verdict) → says fine ≡ says u → or_else u v ≡ v
goes_on v e = ap (λ (w : Verdict). or_else w v) (sym (says_is e))

-- rows whose cells, or whose marks, were written from a place on stand there
pub rows_written : {before after : Work} {at : ℕ} (rows : List Row) → CellsWritten before at (flat rows) after → Kept before after → RowsAt at rows before after
rows_written rows w k = record {
  read = ap (take (length (flat rows))) (from-written w) ∙ take_at (flat rows) _ (length (flat rows)) refl;
  lower = below-written w;
  as_long = as_long w;
  kept = k;
}

pub marks-put : {before after : List ℕ} {at : ℕ} (rows : List Row) → Written before at (map (λ row. row.mark) rows) after → MarksKept before after → MarksAt at rows before after
marks-put rows w k = record {
  read = ap (take (length rows)) (from-written w) ∙ take_at (map (λ row. row.mark) rows) _ (length rows) (length-map rows (λ row. row.mark));
  lower = below-written w;
  kept = k;
}

-- what stands there are cells, so that rows with the same cells stand there too
pub rows-like : {before after : Work} {at : ℕ} (rows others : List Row) → flat rows ≡ flat others → RowsAt at others before after → RowsAt at rows before after
rows-like rows others e r = record { read = rw e r.read; lower = r.lower; as_long = r.as_long; kept = r.kept }

-- marks that are enough, beside other tests
pub marks-too : {b : Bool} (marks : List ℕ) → mark_room ≤ length marks → b ≡ true → (leb mark_room (length marks) && b) ≡ true
marks-too marks h e = rw (le-leb mark_room (length marks) h) e

pub marks-short : (b : Bool) (marks : List ℕ) → length marks < mark_room → (leb mark_room (length marks) && b) ≡ false
marks-short b marks h = rw (lt-leb mark_room (length marks) h)

pub not-even : {b : Bool} (marks : List ℕ) → b ≡ false → (leb mark_room (length marks) && b) ≡ false
not-even marks e = rw (e, and-false)

-- the marks of a table that a step leaves in its slot, of rows that keep theirs
pub marks_stay : (marks : List ℕ) (at : ℕ) (rows : List Row) → mark_part marks at (length rows) ≡ map (λ row. row.mark) rows → MarksAt at rows marks marks
marks_stay marks at rows e = record { read = e; lower = refl; kept = marks-none marks }

module _ {fit : Bool} (step : Step) (supply : Supply) (before : Memory) (stack : Stack) where
  pub unfit-done : fit ≡ false → DoneWhere fit step supply before stack (Err error.DoesNotFit) before
  unfit-done f = record {
    misfit = λ _. (refl, refl, refl);
    answer = λ t. clash t f;
    unmade = λ t. clash t f;
    made = λ t. clash t f;
    kept = all_none before;
  }

  module _ (t : fit ≡ true) where
    -- a refusal that has changed nothing below the last slot, and nothing at all but for JOIN's 34
    pub refused-done : (refusal : Refusal) (after : Memory) → verdict step supply (stack_in before stack) ≡ refusal_says refusal → AllKept before after
        → take last_slot after.work.values ≡ take last_slot before.work.values → take last_slot after.work.labels ≡ take last_slot before.work.labels
        → take last_marks after.marks ≡ take last_marks before.marks
        → ((number row column : ℕ) → refusal_says refusal ≡ refused number row column → leaves_rows step number ≡ false → after ≡ before)
        → DoneWhere fit step supply before stack (Err (error.Refused refusal)) after
    refused-done refusal after v k values labels marks same = record {
      misfit = λ f. clash t f;
      answer = λ _. ap says (sym v);
      unmade = λ _ number row column w. record {
        stack_same = refl;
        all_same = same number row column (sym v ∙ w);
        values-below = values;
        labels-below = labels;
        marks-below = marks;
      };
      made = λ _ e. never-fine (v ∙ (verdicts refusal).is) e;
      kept = k;
    }

    pub unchanged-done : (refusal : Refusal) → verdict step supply (stack_in before stack) ≡ refusal_says refusal
        → DoneWhere fit step supply before stack (Err (error.Refused refusal)) before
    unchanged-done refusal v = refused-done refusal before v (all_none before) refl refl refl (λ _ _ _ _ _. refl)

    -- a table of so many rows and columns whose cells and marks stand in a slot, with nothing changed below it
    pub made-done : (index columns count : ℕ) (rows : List Row) {at marks : ℕ} (after : Memory) → Ready (length before.work.values) (length before.work.labels) stack
        → mark_room ≤ length before.marks
        → verdict step supply (stack_in before stack) ≡ fine → index < 3 → stack.depth ≡ index + takes step
        → make step supply (stack_in before stack) ≡ record { columns = columns; rows = rows }
        → columns ≤ 8 → count ≤ 256 → count ≡ length rows → Each (Wide columns) rows
        → at ≡ slot index → RowsAt at rows before.work after.work
        → marks ≡ mark_slot index → MarksAt marks rows before.marks after.marks
        → DoneWhere fit step supply before stack (Ok (with_table stack index columns count)) after
    made-done index columns count rows after r mark-room allowed low depth made few-columns few-rows counted wide place stand mark-place marks =
        let there : stack.depth - takes step ≡ index = omega arith in
        let cells = rw place at stand.read in
        let split : drop (slot index) (cells_in after.work) ≡ flat rows ++ drop (length (flat rows)) (drop (slot index) (cells_in after.work))
        = sym (take-append-drop (length (flat rows)) _) ∙ ap (λ (l : List Cell). l ++ drop (length (flat rows)) (drop (slot index) (cells_in after.work))) cells in
        let read : table_in after index columns count ≡ record { columns = columns; rows = rows }
        = ap₂ (λ (m : List ℕ) (l : List Cell). record { columns = columns; rows = rows_of columns m l })
        (ap (mark_part after.marks (mark_slot index)) counted ∙ (rw mark-place at marks.read)) split
        ∙ ap (λ (l : List Row). record { columns = columns; rows = l }) (rows-flat columns rows _ wide) in
        let stands = stack-with before after stack index (takes step) columns count rows r (record {
          cells-room = cells-length before.work _ r.values-room r.labels-room;
          cells-long = stand.as_long;
          marks-room = mark-room;
          marks-long = marks.kept.as_many;
        }) low depth (record { cells = rw place at stand.lower; marks = rw mark-place at marks.lower }) read in
        let again = with-ready (length before.work.values) (length before.work.labels) stack index columns count r low few-columns few-rows in
        record {
          misfit = λ f. clash t f;
          answer = λ _. ap says (sym allowed);
          unmade = λ _ number row column v. never-fine v allowed;
          made = λ _ _. record {
            stack_is = rw (made, there, ← counted);
            tables-are = stands ∙ ap (λ (table : Table). table ∷ drop (takes step) (stack_in before stack)) (sym made);
            still = ap₂ (λ (m n : ℕ). ready m n (with_table stack index columns count)) stand.kept.as-many-values stand.kept.as-many-labels ∙ to-ready _ _ _ again;
          };
          kept = record { work = stand.kept; marks = marks.kept };
        }

  -- an answer other than that the table is made, before anything has changed
  pub answered-done : (wrong : StepError) {v : Verdict} → verdict step supply (stack_in before stack) ≡ v → error_says wrong ≡ cond fit (says v) unfit
      → DoneWhere fit step supply before stack (Err wrong) before
  answered-done (error.Refused refusal) {v} e said = go fit refl said
    where
      go : (b : Bool) → fit ≡ b → says (refusal_says refusal) ≡ cond b (says v) unfit → DoneWhere fit step supply before stack (Err (error.Refused refusal)) before
      go true t said = unchanged-done t refusal (e ∙ sym (says_is said))
      go false f said = absurd (never-unfit (sym said))
  answered-done error.DoesNotFit {v} e said = go fit refl said
    where
      go : (b : Bool) → fit ≡ b → unfit ≡ cond b (says v) unfit → DoneWhere fit step supply before stack (Err error.DoesNotFit) before
      go true t said = absurd (never-unfit said)
      go false f said = unfit-done f
