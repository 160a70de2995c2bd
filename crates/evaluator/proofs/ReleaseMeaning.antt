-- The release in work memory and its meaning. Assumes nothing.
use Prim.Native.Nat.{ℕ, zero, suc, ◌*◌, ◌≤◌, ◌<◌}
use mathlib.Core.Path.{◌≡◌, refl, sym, ap, ap₂, subst, ◌∙◌}
use mathlib.Core.Bool.{Bool, true, false, not}
use mathlib.Core.List.{List, [], ◌∷◌, ◌++◌, map}
use native.Mathlib.Nat.{mul-le-mul}
use native.Mathlib.Omega.{arith}
use lib.Dec.{leb}
use lib.IntN.{ℤ}
use lib.ListN.{length, take, drop, length-drop}
use lib.Seq.{length-take-le}
use borrow.Author.Tests.{le-leb}
use Rattle.plan.specs.Masks.{in_mask}
use Rattle.plan.specs.Evaluate.{Outcome, release, refuse, check_release, first_over, ending}
use Rattle.plan.specs.Table.{Cell, Table, grid, labels_of, rows_of}
use Rattle.plan.specs.Verdict.{Verdict, fine, refused, or_else, refuse_if, not_clear}
use Rattle.cells.specs.promises.Cells.{cells_of, grid_of}
use Rattle.cells.specs.promises.Search.{says, unfit, table_within, not_clear_at}
use Rattle.cells.specs.promises.Work.{Work, work, cells_in, room, mark_room}
use Rattle.memory.specs.promises.Stack.{mark_slot, mark_part, table_in}
use Rattle.cells.proofs.CellLaws.{cells-drop, values-front}
use Rattle.memory.proofs.Finish.{says_is, never-unfit}
use Rattle.cells.proofs.Rows.{marked-grid, marked-length}
use Rattle.memory.proofs.Stacks.{marks-count}
use Rattle.cells.proofs.Wanted.{search-same}
use Rattle.table_values.specs.promises.Output.{copied}
use Rattle.table_values.specs.promises.Over.{first_over_at}
use Rattle.table_values.proofs.Laws.{table-fits, table-over, table-values}
use Rattle.csv_text.specs.Text.{cut, text_of, table_text}
use Rattle.csv_writer.specs.promises.Writing.{text_from}
use Rattle.demands.specs.Answers.{Told, released, refused_state}
use Rattle.release.specs.declared.ReleaseRefusal.{ReleaseRefusal}
use Rattle.release.specs.declared.ReleaseRefusal.TheVariants as refusal
use Rattle.std.specs.Prelude.{Result, Ok, Err}
use Rattle.release.specs.promises.Release.{release_says, bytes_told, bytes_after, output_after, export_after, after_fine, room_reply, release_reply, Releases}
use Rattle.run_answers.specs.promises.Releases.{release_tells}
use Rattle.walk.specs.promises.Walk.{finish}
use Rattle.demands.specs.Monitor.{rows_out, written, with_text}
use Rattle.evaluator.proofs.Ends.{Ends}

-- every column is in the mask 255
all-columns : (c : ℕ) → c < 8 → in_mask 255 c ≡ true
unfolding in_mask
all-columns zero h = refl
all-columns (suc zero) h = refl
all-columns (suc (suc zero)) h = refl
all-columns (suc (suc (suc zero))) h = refl
all-columns (suc (suc (suc (suc zero)))) h = refl
all-columns (suc (suc (suc (suc (suc zero))))) h = refl
all-columns (suc (suc (suc (suc (suc (suc zero)))))) h = refl
all-columns (suc (suc (suc (suc (suc (suc (suc zero))))))) h = refl
all-columns (suc (suc (suc (suc (suc (suc (suc (suc c)))))))) h = absurd (omega arith)

-- what a verdict at release makes a run answer
abbrev answer_by : ℕ → ℕ → ℕ → Verdict → ℕ → Told
answer_by rows columns steps fine bytes = released rows columns bytes
answer_by rows columns steps (refused number row column) bytes = refused_state number steps row column

-- the values of rows in memory
rows_cut : (columns : ℕ) (marks : List ℕ) (vs : List ℤ) (ls : List ℕ) → length marks * columns ≤ length ls
    → map (λ row. map (λ cell. cell.value) row.cells) (rows_of columns marks (cells_of vs ls)) ≡ cut columns (length marks) vs
rows_cut columns [] vs ls h = refl
rows_cut columns (mark ∷ marks) vs ls h =
    ap₂ ◌∷◌ (values-front (work vs ls) columns (omega arith))
    (ap (λ (l : List Cell). map (λ row. map (λ cell. cell.value) row.cells) (rows_of columns marks l)) (sym (cells-drop columns vs ls))
    ∙ rows_cut columns marks (drop columns vs) (drop columns ls) (simp length-drop (omega arith)))

module _ (w : Work) (all_marks : List ℕ) (rows columns steps : ℕ) (few : rows ≤ 256) (narrow : columns ≤ 8) (in-values : room ≤ length w.values) (in-labels : room ≤ length w.labels)
    (in-marks : mark_room ≤ length all_marks) where
  abbrev table : Table
  table = table_in (record { work = w; marks = all_marks }) 0 columns rows

  -- the marks of its rows
  abbrev marks : List ℕ
  marks = mark_part all_marks (mark_slot 0) rows

  as_many : length marks ≡ rows
  as_many = marks-count all_marks (mark_slot 0) rows (omega arith)

  pub cells-few : rows * columns ≤ 2048
  cells-few = mul-le-mul few narrow

  grid-is : grid table ≡ grid_of columns rows (drop 0 w.labels)
  grid-is =
      ap (λ (m : List Cell). map labels_of (rows_of columns marks m)) (sym (cells-drop 0 w.values w.labels))
      ∙ marked-grid columns marks (drop 0 w.values) (drop 0 w.labels) (rw as_many (simp length-drop (omega (arith, cells-few))))
      ∙ ap (λ (n : ℕ). grid_of columns n (drop 0 w.labels)) as_many

  fits-labels : table_within 0 rows columns (length w.labels) ≡ true
  fits-labels = table-fits 0 rows columns (length w.labels) few narrow (omega (arith, cells-few))

  fits-values : table_within 0 rows columns (length w.values) ≡ true
  fits-values = table-fits 0 rows columns (length w.values) few narrow (omega (arith, cells-few))

  stages : Verdict
  stages = not_clear (λ column. true) 35 0 (grid table)

  overs : Verdict
  overs = first_over 0 table.rows

  -- what a release replies is the meaning's
  searched : not_clear_at 35 0 w.labels 0 rows columns 255 ≡ says stages
  unfolding stages
  searched = rw fits-labels (ap says (search-same (in_mask 255) (λ column. true) all-columns 35 columns rows 0 (drop 0 w.labels) narrow ∙ ap (not_clear (λ column. true) 35 0) (sym grid-is)))

  over-searched : first_over_at 0 w.values 0 rows columns ≡ says overs
  unfolding overs
  over-searched = rw fits-values (ap says (sym (table-over w 0 columns rows marks as_many 0 (omega (arith, cells-few)))))

  one-after-another : (u v x : Verdict) → after_fine (says u) (after_fine (says v) (says x)) ≡ says (or_else (or_else u v) x)
  one-after-another fine fine x = refl
  one-after-another fine (refused number row column) x = refl
  one-after-another (refused number row column) v x = refl

  -- the text written is that of the table
  text_same : text_from w.values rows columns ≡ table_text table
  text_same =
      ap (text_of columns)
      (sym (ap (λ (m : List Cell). map (λ row. map (λ cell. cell.value) row.cells) (rows_of columns marks m)) (sym (cells-drop 0 w.values w.labels))
      ∙ rows_cut columns marks (drop 0 w.values) (drop 0 w.labels) (rw as_many (simp length-drop (omega (arith, cells-few))))
      ∙ ap (λ (n : ℕ). cut columns n w.values) as_many))

  module _ (some : 1 ≤ columns) (output : List ℤ) (long : 2048 ≤ length output) (text : List ℕ) where
    abbrev fits : Bool
    fits = leb (length (table_text table)) (length text)

    -- 35, then 36, then 51
    abbrev verdict : Verdict
    verdict = or_else (check_release table) (refuse_if (not fits) 51 0 0)

    room-replies : room_reply w.values output text rows columns ≡ says (refuse_if (not fits) 51 0 0)
    room-replies = rw (le-leb (rows * columns) (length output) (omega (arith, cells-few)), le-leb 1 columns some, fits-values, text_same)

    replies : release_reply w output text rows columns ≡ says verdict
    unfolding stages overs check_release
    replies = rw (searched, over-searched, room-replies) (one-after-another stages overs (refuse_if (not fits) 51 0 0))

    -- the values of the table, before what is left of the output
    values-out : copied w.values 0 (rows * columns) output ≡ written (rows_out (release table)) output
    values-out =
        let values-are = table-values w 0 columns rows marks as_many (omega (arith, cells-few)) in
        let count : length (take (rows * columns) (drop 0 w.values)) ≡ rows * columns = length-take-le (rows * columns) (drop 0 w.values) (simp length-drop (omega (arith, cells-few))) in
        ap₂ (λ (x : List ℤ) (n : ℕ). x ++ drop n output) (sym values-are) (sym count ∙ ap length (sym values-are))

    -- what a verdict at release makes of a run
    abbrev outcome_by : Verdict → Outcome
    outcome_by fine = release table
    outcome_by (refused number row column) = refuse number steps row column

    outcome-is : outcome_by verdict ≡ with_text steps (length text) (finish steps table)
    outcome-is = by-verdict (check_release table) fits refl
      where
        by-verdict : (v : Verdict) (b : Bool) → fits ≡ b
            → outcome_by (or_else v (refuse_if (not b) 51 0 0)) ≡ with_text steps (length text) (ending v steps (record { outcome = release table; trace = [] })).outcome
        by-verdict fine true e = rw e
        by-verdict fine false e = rw e
        by-verdict (refused number row column) b e = refl

    finished : {answer : Result ℕ ReleaseRefusal} {output₁ : List ℤ} {text₁ : List ℕ} (v : Verdict) → release_says answer ≡ says v
        → Releases (release_reply w output text rows columns) w.values output text rows columns answer output₁ text₁
        → Ends (with_text steps (length text) (finish steps table)) output text (answer_by rows columns steps v (bytes_told answer)) output₁ text₁
    finished {answer} {output₁} {text₁} v e r =
        let so : release_reply w output text rows columns ≡ says v = sym r.says_so ∙ e in
        subst (λ (o : Outcome). Ends o output text (answer_by rows columns steps v (bytes_told answer)) output₁ text₁)
        (ap outcome_by (says_is (sym so ∙ replies)) ∙ outcome-is) (by-verdict v (rw so at r.bytes-are) (rw so at r.output-is) (rw so at r.text-is))
      where
        by-verdict : (v : Verdict) → bytes_told answer ≡ bytes_after (says v) w.values rows columns → output₁ ≡ output_after (says v) w.values output rows columns
            → text₁ ≡ export_after (says v) w.values text rows columns → Ends (outcome_by v) output text (answer_by rows columns steps v (bytes_told answer)) output₁ text₁
        by-verdict fine b o t = record {
          told_is = ap₂ (λ (n m : ℕ). released n columns m) (sym (marked-length columns marks (drop 0 (cells_in w)) ∙ as_many)) (b ∙ ap length text_same);
          output-is = o ∙ values-out;
          text-is = t ∙ ap (λ (l : List ℕ). written l text) text_same;
        }
        by-verdict (refused number row column) b o t = record { told_is = refl; output-is = o; text-is = t }

    always-fits : unfit ≡ release_reply w output text rows columns → ⊥
    always-fits e = never-unfit (e ∙ replies)

    -- so it ends as the evaluation does, or with 51
    pub release-ends : (answer : Result ℕ ReleaseRefusal) {output₁ : List ℤ} {text₁ : List ℕ}
        → Releases (release_reply w output text rows columns) w.values output text rows columns answer output₁ text₁
        → Ends (with_text steps (length text) (finish steps table)) output text (release_tells steps rows columns answer) output₁ text₁
    release-ends (Ok bytes) r = finished fine refl r
    release-ends (Err (refusal.StageLeft at)) r = finished (refused 35 at.row at.column) refl r
    release-ends (Err (refusal.Over at)) r = finished (refused 36 at.row at.column) refl r
    release-ends (Err refusal.NoRoom) r = finished (refused 51 0 0) refl r
    release-ends (Err refusal.DoesNotFit) r = absurd (always-fits r.says_so)
