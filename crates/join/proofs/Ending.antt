-- The rows made, copied down to the left table's slot, and what the step then answers. Assumes nothing.
use Prim.Native.Nat.{ℕ, ◌+◌, ◌*◌, ◌≤◌, ◌<◌}
use mathlib.Core.Path.{◌≡◌, refl, sym, ap, ◌∙◌}
use mathlib.Core.Bool.{Bool, true, false, cond}
use mathlib.Core.List.{List, map}
use native.Mathlib.Nat.{zero-add, zero-mul}
use native.Mathlib.Omega.{arith}
use lib.Dec.{ltb}
use lib.ListN.{length, take, drop}
use borrow.Author.Tests.{lt-ltb, le-ltb, ltb-true, ltb-false}
use Rattle.std.specs.Prelude.{Some, None, Result, Ok, Err, IsErrAnd}
use Rattle.cells.specs.declared.At.{At}
use Rattle.cells.specs.promises.Cells.{moved, can_move, Wide}
use Rattle.cells.specs.promises.Search.{says, place_says}
use Rattle.cells.specs.promises.Work.{Memory, cells_in, mark_room, AllKept}
use Rattle.cells.specs.promises.Written.{Put}
use Rattle.pairs.specs.declared.Side.{Side}
use Rattle.join.specs.promises.Ends.{side_of, Finished}
use Rattle.pairs.specs.promises.Pairs.{SidesFit, MarksBelow, Joined, width, side_rows, side_labels, all_rows, left_marked, marked_rows}
use Rattle.live_tables.specs.declared.LiveTable.{LiveTable}
use Rattle.memory.specs.declared.Refusal.{Refusal}
use Rattle.memory.specs.declared.Refusal.TheVariants.{NotClear, TooMany}
use Rattle.live_tables.specs.declared.Stack.{Stack}
use Rattle.memory.specs.declared.StepError.TheVariants.{Refused}
use Rattle.memory.specs.promises.Stack.{last_slot, last_marks, mark_part, stack_in, with_table, marked_in, RowsAt, MarksAt}
use Rattle.memory.specs.promises.Steps.{verdict, fits_in, leaves_rows, Done}
use Rattle.plan.specs.Join.{check_join}
use Rattle.plan.specs.Supply.{Supply}
use Rattle.plan.specs.Table.{Row, flat, Each}
use Rattle.plan.specs.Verdict.{Verdict, fine, refused, or_else, refuse_if}
use Rattle.plan.specs.declared.Step.TheVariants.{Join}
use Rattle.cells.proofs.CellLaws.{moved_in, values-front, labels-front}
use Rattle.cells.proofs.RowReads.{flat-length}
use Rattle.cells.proofs.Rows.{marked-wide}
use Rattle.cells.proofs.Written.{Moves}
use Rattle.pairs.proofs.Growing.{counted-few, counted-many, few-made, cells-room, cells-in, rows-in-wide}
use Rattle.pairs.proofs.Joining.{rows-joined-wide}
use Rattle.pairs.proofs.Marks.{all-length, all-flat}
use Rattle.join.proofs.Meaning.{JoinFits, join-verdict, made-is}
use Rattle.memory.proofs.Finish.{says_is, unchanged-done, refused-done, made-done}
use Rattle.memory.proofs.LiveTables.{at-is, marks-place, marks-inside, marked-are-wide}
use Rattle.memory.proofs.MovedDown.{down-values, down-labels, moved_down, marks-down}
use Rattle.memory.proofs.Stacks.{fits-slot, marks-count}

-- what `?` makes of too many rows
pub refusal-is : {made : Result ℕ Refusal} → IsErrAnd made (λ found. found ≡ TooMany) → made ≡ Err TooMany
refusal-is {made = Ok rows} e = absurd e
refusal-is {made = Err found} e = ap Err e

module _ {left right : Side} (m : Memory) (sides : SidesFit (length m.work.values) (length m.work.labels) left right) (marked : MarksBelow left (length m.marks)) where
  abbrev rows : List Row
  rows = marked_rows m left right

  as_many : length rows ≡ length (all_rows (cells_in m.work) left right)
  as_many = all-length m left right marked

  pub finished-over : {u : Memory} → Joined left right m (Err (record {})) u → Finished left right m (Err TooMany) u
  finished-over j = record {
    refused = λ _. (refl, j.grown.below, j.marks-below);
    made = λ k. absurd (omega (arith, counted-many _ j.grown.counted, as_many));
    kept = record { work = j.grown.kept; marks = j.marks-kept };
  }

  all-wide : Each (Wide (width left right)) rows
  all-wide =
      let part = mark_part m.marks left.table.marks left.table.rows in
      let counted : length part ≡ left.table.rows = marks-count m.marks left.table.marks left.table.rows (omega (arith, marked.below, marked.mark-room)) in
      rows-joined-wide left.key right.key left.table.columns right.table.columns sides.left_key sides.right_key (left_marked m left) (side_rows (cells_in m.work) right)
      (marked-wide left.table.columns part (drop left.table.at (cells_in m.work)) (rw counted (cells-in m.work sides left sides.left_below))) (rows-in-wide m.work sides right sides.right-below)

  module _ {u : Memory} {count : ℕ} (j : Joined left right m (Ok count) u) where
    total : length rows ≡ count
    total = omega (arith, (counted-few _ j.grown.counted).0, as_many)

    h : count ≤ 256
    h = few-made m.work sides j.grown

    few : count * width left right ≤ 2048
    few = fits-slot count (width left right) h sides.few

    -- the rows stand in the last slot
    above : Put last_slot (flat rows) m.work u.work
    above =
        let e : last_slot + 0 * width left right ≡ last_slot = omega (arith, zero-mul (width left right)) in
        let long = flat-length (width left right) rows all-wide ∙ ap (λ (n : ℕ). n * width left right) total in
        record {
          written = record { room = omega (arith, cells-room m.work sides, long, few); is = rw (all-flat m left right marked) (rw e at (j.grown.put (omega (arith, total, as_many, h)))) };
          kept = j.grown.kept;
        }

    pub rows-values : Moves last_slot left.table.at (count * width left right) (length u.work.values)
    rows-values = down-values left.table.at (width left right) count rows above all-wide total (omega (arith, sides.left_below)) few sides.values-room sides.labels-room

    pub rows-labels : Moves last_slot left.table.at (count * width left right) (length u.work.labels)
    rows-labels = down-labels left.table.at (width left right) count rows above all-wide total (omega (arith, sides.left_below)) few sides.values-room sides.labels-room

    pub finished-made : {marks : List ℕ} {r : Bool} → left.table.marks + 256 ≤ last_marks
        → r ≡ can_move last_marks left.table.marks count (length u.marks) → marks ≡ cond r (moved last_marks left.table.marks count u.marks) u.marks
        → Finished left right m (Ok count) (record { work = moved_in last_slot left.table.at (count * width left right) u.work; marks = marks })
    finished-made low told is-marks =
        let down = moved_down left.table.at (width left right) count rows above all-wide total (omega (arith, sides.left_below)) few sides.values-room sides.labels-room in
        let marks-moved = marks-down left.table.marks count rows (j.marked (omega (arith, total, as_many, h))) total low h marked.mark-room told is-marks in
        record {
          refused = λ k. absurd (omega (arith, total, h));
          made = λ k. (ap Ok (sym total), down, marks-moved);
          kept = record { work = down.kept; marks = marks-moved.kept };
        }

-- ---- the three ends of a join that fits

module _ (left right : ℕ) (supply : Supply) (m : Memory) (stack : Stack) {lower upper : LiveTable} {columns : ℕ} (room : mark_room ≤ length m.marks) (t : fits_in (Join left right) supply m stack ≡ true)
    (f : JoinFits left right (length m.work.values) (length m.work.labels) stack lower upper columns) where
  abbrev l : Side
  l = side_of lower left

  abbrev r : Side
  r = side_of upper right

  abbrev keys : Verdict
  keys = check_join left right (side_labels m.work.labels l) (side_labels m.work.labels r)

  verdict-is : verdict (Join left right) supply (stack_in m stack) ≡ or_else keys (refuse_if (ltb 256 (length (marked_rows m l r))) 34 256 0)
  verdict-is = join-verdict left right supply m stack room f

  pub key-done : {at : At} → place_says 31 0 (Ok (Some at)) ≡ says keys → Done (Join left right) supply m stack (Err (Refused (NotClear at))) m
  key-done {at} e = unchanged-done (Join left right) supply m stack t (NotClear at) (verdict-is ∙ rw (← says_is e, zero-add at.row))

  over_done : {u : Memory} → keys ≡ fine → 256 < length (marked_rows m l r) → take last_slot (cells_in u.work) ≡ take last_slot (cells_in m.work)
      → take last_marks u.marks ≡ take last_marks m.marks → AllKept m u → Done (Join left right) supply m stack (Err (Refused TooMany)) u
  over_done {u} e h below marks-below k =
      let v = f.sides.values-room in
      let l = f.sides.labels-room in
      refused-done (Join left right) supply m stack t TooMany u (verdict-is ∙ rw (e, lt-ltb 256 _ h)) k
      (sym (values-front u.work last_slot (omega (arith, k.work.as-many-labels))) ∙ ap (map (λ cell. cell.value)) below ∙ values-front m.work last_slot (omega arith))
      (sym (labels-front u.work last_slot (omega (arith, k.work.as-many-values))) ∙ ap (map (λ cell. cell.label)) below ∙ labels-front m.work last_slot (omega arith))
      marks-below (λ number row column r n. leaves r n)
    where
      leaves : {number row column : ℕ} {A : Type 0} → refused 34 256 0 ≡ refused number row column → leaves_rows (Join left right) number ≡ false → A
      leaves {number} r n = let same : 34 ≡ number = cc in let z : true ≡ false = rw (← same) at n in absurd (let o : ◌≡◌ {A = ℕ} 0 1 = cc in omega arith)

  rows-done : {u : Memory} → keys ≡ fine → length (marked_rows m l r) ≤ 256 → RowsAt lower.at (marked_rows m l r) m.work u.work → MarksAt lower.marks (marked_rows m l r) m.marks u.marks
      → Done (Join left right) supply m stack (Ok (with_table stack lower.slot (width l r) (length (marked_rows m l r)))) u
  rows-done {u} e h stand marks =
      let marked = marks-inside f.below f.ready-is room in
      made-done (Join left right) supply m stack t lower.slot (width l r) (length (marked_rows m l r)) (marked_rows m l r) u f.ready-is room
      (verdict-is ∙ rw (e, le-ltb 256 _ h)) f.below.low f.below.depth_is (made-is left right supply m stack room f) f.sides.few h refl
      (rows-joined-wide left right lower.columns upper.columns f.sides.left_key f.sides.right_key (marked_in m lower) (side_rows (cells_in m.work) r)
      (marked-are-wide m f.in-lower marked) (rows-in-wide m.work f.sides r f.in-upper.below))
      (at-is f.below) stand (marks-place f.below) marks

  -- too many rows are refused, and no more are made
  pub too-many-done : {refusal : Refusal} {u : Memory} → place_says 31 0 (Ok None) ≡ says keys → Finished l r m (Err refusal) u → Done (Join left right) supply m stack (Err (Refused refusal)) u
  too-many-done {refusal} {u} e g = go (ltb 256 (length (marked_rows m l r))) refl
    where
      go : (b : Bool) → ltb 256 (length (marked_rows m l r)) ≡ b → Done (Join left right) supply m stack (Err (Refused refusal)) u
      go true b =
          let f = g.refused (ltb-true 256 _ b) in
          let is : refusal ≡ TooMany = cc (f.0) in
          rw is (over_done (sym (says_is e)) (ltb-true 256 _ b) f.1 f.2 g.kept)
      go false b = cc ((g.made (ltb-false 256 _ b)).0)

  pub rows-made-done : {made : ℕ} {u : Memory} → place_says 31 0 (Ok None) ≡ says keys → Finished l r m (Ok made) u → Done (Join left right) supply m stack (Ok (with_table stack lower.slot (width l r) made)) u
  rows-made-done {made} {u} e g = go (ltb 256 (length (marked_rows m l r))) refl
    where
      go : (b : Bool) → ltb 256 (length (marked_rows m l r)) ≡ b → Done (Join left right) supply m stack (Ok (with_table stack lower.slot (width l r) made)) u
      go true b = cc ((g.refused (ltb-true 256 _ b)).0)
      go false b =
          let f = g.made (ltb-false 256 _ b) in
          let is : made ≡ length (marked_rows m l r) = cc (f.0) in
          rw is (rows-done (sym (says_is e)) (ltb-false 256 _ b) f.1 f.2)
