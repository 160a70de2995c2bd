-- UNION in work memory and its meaning. Assumes nothing.
use Prim.Native.Nat.{ℕ, ◌+◌, ◌*◌, ◌≤◌, ◌<◌}
use mathlib.Core.Path.{◌≡◌, sym, ap, ap₂, ◌∙◌}
use mathlib.Core.Bool.{Bool, true, cond, and-eq-true_iff}
use mathlib.Core.List.{List, ◌++◌, map, map-append}
use native.Mathlib.Nat.{mul-le-mul}
use native.Mathlib.Omega.{arith}
use lib.Dec.{ltb}
use lib.IntN.{ℤ}
use lib.ListN.{length, take, drop, length-append, length-drop, length-map, take-append-drop}
use lib.Seq.{drop-drop, length-take-le}
use borrow.Author.Tests.{eqb-true, leb-true, lt-ltb, le-ltb}
use Rattle.cells.specs.promises.Cells.{moved, can_move, Wide}
use Rattle.cells.specs.promises.Work.{Memory, memory_of, cells_in, room, mark_room}
use Rattle.cells.specs.promises.Written.{Written, CellsWritten}
use Rattle.live_tables.specs.declared.LiveTable.{LiveTable}
use Rattle.memory.specs.declared.Refusal.TheVariants.{TooMany}
use Rattle.live_tables.specs.declared.Stack.{Stack}
use Rattle.std.specs.Prelude.{Ok, Err}
use Rattle.memory.specs.declared.StepError.TheVariants.{Refused}
use Rattle.memory.specs.promises.Stack.{Ready, slot, mark_slot, mark_part, stack_in, widths_to, with_table, live_table}
use Rattle.memory.specs.promises.Steps.{verdict, fits, fits_in, Done}
use Rattle.plan.specs.Steps.{check, make, too_many}
use Rattle.plan.specs.Supply.{Supply}
use Rattle.plan.specs.Table.{Row, Table, rows_of, flat}
use Rattle.plan.specs.Union.{united}
use Rattle.plan.specs.Verdict.{refuse_if}
use Rattle.plan.specs.Widths.{enough_tables, columns_exist, made_columns}
use Rattle.plan.specs.declared.Step.TheVariants.{Union}
use Rattle.cells.proofs.CellLaws.{moved_in, cells-length, cells-moved, kept-none, kept-moved, can-move, marks-written}
use Rattle.cells.proofs.RowReads.{flat_append, flat-marked}
use Rattle.cells.proofs.Rows.{marked-length, marked-wide, marks-are}
use Rattle.cells.proofs.Written.{Moves, down, then-copied}
use Rattle.memory.proofs.Finish.{unchanged-done, made-done, rows_written, marks-put}
use Rattle.memory.proofs.LiveTables.{fits-parts, Stands, stands, inside, at-is, marks-place, stack-two, top-width, second-width}
use Rattle.memory.proofs.Stacks.{marks-count}
use Rattle.plan.proofs.SenseShape.{each_append}

-- what a union that fits finds
pub record UnionFits (values labels : ℕ) (stack : Stack) (left right : LiveTable) (width : ℕ) : Type 0 where
  pub is-ready : Ready values labels stack
  pub lower : Stands stack 1 left
  pub upper : Stands stack 0 right
  pub few-left : left.rows ≤ 256
  pub few-right : right.rows ≤ 256
  pub narrow : width ≤ 8
  pub cells-left : left.rows * width ≤ 2048
  pub cells_right : right.rows * width ≤ 2048
  pub left_at : left.at ≡ slot left.slot
  pub right-at : right.at ≡ slot left.slot + 2048
  pub left-wide : left.columns ≡ width
  pub right-wide : right.columns ≡ width
  pub left-marks : left.marks ≡ mark_slot left.slot
  pub right-marks : right.marks ≡ mark_slot left.slot + 256

pub union-parts : (tables : List ℕ) (values labels : ℕ) (stack : Stack) (left right : LiveTable) (width : ℕ) → left ≡ live_table stack 1 → right ≡ live_table stack 0
    → fits Union tables values labels stack ≡ true → width ≡ made_columns Union tables (widths_to stack stack.depth) → UnionFits values labels stack left right width
unfolding enough_tables columns_exist made_columns
union-parts tables values labels stack left right width l r t w =
    let parts = fits-parts Union tables values labels stack t in
    let two = leb-true 2 stack.depth parts.1 in
    let lower = stands stack 1 left parts.0.depth two l in
    let upper = stands stack 0 right parts.0.depth (omega arith) r in
    let a = inside lower parts.0 in
    let b = inside upper parts.0 in
    let same = eqb-true _ _ ((and-eq-true_iff (columns_exist Union tables (widths_to stack stack.depth)) _).0 parts.2).0 in
    let left-wide : left.columns ≡ width = sym (second-width lower) ∙ sym w in
    let right-wide : right.columns ≡ width = sym (top-width upper) ∙ sym same ∙ sym w in
    record {
      is-ready = parts.0;
      lower = lower;
      upper = upper;
      few-left = a.few-rows;
      few-right = b.few-rows;
      narrow = rw left-wide at a.few-columns;
      cells-left = rw left-wide at (mul-le-mul a.few-rows a.few-columns);
      cells_right = rw right-wide at (mul-le-mul b.few-rows b.few-columns);
      left_at = at-is lower;
      right-at = omega (arith, at-is upper, lower.depth_is, upper.depth_is);
      left-wide = left-wide;
      right-wide = right-wide;
      left-marks = marks-place lower;
      right-marks = omega (arith, marks-place upper, lower.depth_is, upper.depth_is);
    }

-- a part of a list, written where it stands
itself : {A : Type 0} (list : List A) (at k : ℕ) → at + k ≤ length list → Written list at (take k (drop at list)) list
itself list at k h =
    let l : length (take k (drop at list)) ≡ k = length-take-le k (drop at list) (simp length-drop (omega arith)) in
    record {
      room = omega (arith, l);
      is = sym (rw (l, ← drop-drop k at list) (ap (λ (t : List _). take at list ++ t) (take-append-drop k (drop at list)) ∙ take-append-drop at list));
    }

module _ (supply : Supply) (m : Memory) (stack : Stack) {left right : LiveTable} {width : ℕ} (mark-room : mark_room ≤ length m.marks) (t : fits_in Union supply m stack ≡ true)
    (f : UnionFits (length m.work.values) (length m.work.labels) stack left right width) where
  abbrev left_marks : List ℕ
  left_marks = mark_part m.marks left.marks left.rows

  abbrev right_marks : List ℕ
  right_marks = mark_part m.marks right.marks right.rows

  abbrev above : List Row
  above = rows_of width left_marks (drop left.at (cells_in m.work))

  abbrev below : List Row
  below = rows_of width right_marks (drop right.at (cells_in m.work))

  made-is : make Union supply (stack_in m stack) ≡ record { columns = width; rows = above ++ below }
  unfolding make united
  made-is = ap (make Union supply) (stack-two m f.upper f.lower) ∙ rw (f.left-wide, f.right-wide)

  -- the marks of both tables lie below the last slot
  marks-reach : (left.marks + left.rows ≤ right.marks) × (right.marks + right.rows ≤ 768)
  marks-reach = omega (arith, f, f.upper.low, f.upper.depth_is, f.lower.depth_is)

  left-count : length left_marks ≡ left.rows
  left-count = marks-count m.marks left.marks left.rows (omega (arith, marks-reach))

  right-count : length right_marks ≡ right.rows
  right-count = marks-count m.marks right.marks right.rows (omega (arith, marks-reach))

  rows-made : length (above ++ below) ≡ left.rows + right.rows
  rows-made = length-append above below ∙ ap₂ ◌+◌ (marked-length width left_marks (drop left.at (cells_in m.work)) ∙ left-count) (marked-length width right_marks (drop right.at (cells_in m.work)) ∙ right-count)

  union-verdict : verdict Union supply (stack_in m stack) ≡ refuse_if (ltb 256 (left.rows + right.rows)) 34 256 0
  unfolding check too_many
  union-verdict = ap (λ (table : Table). refuse_if (ltb 256 (length table.rows)) 34 256 0) made-is ∙ ap (λ (n : ℕ). refuse_if (ltb 256 n) 34 256 0) rows-made

  pub union-many : 256 < left.rows + right.rows → Done Union supply m stack (Err (Refused TooMany)) m
  union-many h = unchanged-done Union supply m stack t TooMany (union-verdict ∙ rw (lt-ltb 256 (left.rows + right.rows) h))

  -- the right rows, and the place behind the left ones
  abbrev from : ℕ
  from = right.at

  abbrev to : ℕ
  to = left.at + left.rows * width

  abbrev count : ℕ
  count = right.rows * width

  reach : from + count ≤ 6144
  reach = omega (arith, f, f.upper.low, f.upper.depth_is, f.lower.depth_is)

  lower-place : to ≤ from
  lower-place = omega (arith, f)

  pub in-values : Moves from to count (length m.work.values)
  in-values = down lower-place (omega (arith, reach, f.is-ready.values-room))

  pub in-labels : Moves from to count (length m.work.labels)
  in-labels = down lower-place (omega (arith, reach, f.is-ready.labels-room))

  pub in-marks : Moves right.marks (left.marks + left.rows) right.rows (length m.marks)
  in-marks = down marks-reach.0 (omega (arith, marks-reach.1))

  -- what `move_marks` leaves
  pub marks-moved : {r : Bool} {after : List ℕ} → r ≡ can_move right.marks (left.marks + left.rows) right.rows (length m.marks)
      → after ≡ cond r (moved right.marks (left.marks + left.rows) right.rows m.marks) m.marks → after ≡ moved right.marks (left.marks + left.rows) right.rows m.marks
  marks-moved told left_is = left_is ∙ rw (told ∙ can-move in-marks)

  -- memory with the right rows and their marks moved behind the left ones
  abbrev pub united_memory : Memory
  united_memory = record { work = moved_in from to count m.work; marks = moved right.marks (left.marks + left.rows) right.rows m.marks }

  marks-united : Written m.marks left.marks (map (λ row. row.mark) (above ++ below)) united_memory.marks
  marks-united =
      let both : map (λ row. row.mark) (above ++ below) ≡ left_marks ++ right_marks
      = map-append (λ row. row.mark) above below ∙ ap₂ ◌++◌ (marks-are width left_marks (drop left.at (cells_in m.work))) (marks-are width right_marks (drop right.at (cells_in m.work))) in
      rw both (then-copied (itself m.marks left.marks left.rows (omega (arith, marks-reach))) right.marks (left.marks + left.rows) right.rows
      (ap (λ (n : ℕ). left.marks + n) (sym left-count)) marks-reach.0 (omega (arith, marks-reach.1)))

  pub union-made : left.rows + right.rows ≤ 256
      → Done Union supply m stack (Ok (with_table stack left.slot width (left.rows + right.rows))) united_memory
  union-made h =
      let w = m.work in
      let c = cells_in w in
      let rows = above ++ below in
      let long : room ≤ length c = cells-length w room f.is-ready.values-room f.is-ready.labels-room in
      let part : length (take (left.rows * width) (drop left.at c)) ≡ left.rows * width = length-take-le (left.rows * width) (drop left.at c) (simp length-drop (omega (arith, long, f, reach))) in
      let copied = then-copied (itself c left.at (left.rows * width) (omega (arith, long, lower-place, reach))) from to count (omega (arith, part)) lower-place (omega (arith, reach, long)) in
      let cells : flat rows ≡ take (left.rows * width) (drop left.at c) ++ take count (drop from c)
      = flat_append above below ∙ ap₂ ◌++◌ (flat-marked width left_marks (drop left.at c) ∙ ap (λ (n : ℕ). take (n * width) (drop left.at c)) left-count)
      (flat-marked width right_marks (drop from c) ∙ ap (λ (n : ℕ). take (n * width) (drop from c)) right-count) in
      let wide = each_append (Wide width) above below
      (marked-wide width left_marks (drop left.at c) (rw left-count (simp length-drop (omega (arith, long, lower-place, reach)))))
      (marked-wide width right_marks (drop from c) (rw right-count (simp length-drop (omega (arith, long, reach))))) in
      let stored : CellsWritten w left.at (flat rows) (moved_in from to count w) = rw (cells, cells-moved w in-values in-labels) copied in
      made-done Union supply m stack t left.slot width (left.rows + right.rows) rows united_memory f.is-ready mark-room
      (union-verdict ∙ rw (le-ltb 256 (left.rows + right.rows) h)) f.lower.low f.lower.depth_is made-is f.narrow h (sym rows-made) wide
      f.left_at (rows_written rows stored (kept-moved in-values in-labels (omega (arith, reach, lower-place)) (kept-none w)))
      f.left-marks (marks-put rows marks-united (marks-written marks-united (omega (arith, marks-reach, length-map rows (λ row. row.mark), rows-made))))

  -- the same of what the moves leave
  pub union_left : left.rows + right.rows ≤ 256 → {us : List ℤ} {ks ns : List ℕ} → us ≡ moved from to count m.work.values → ks ≡ moved from to count m.work.labels
      → ns ≡ moved right.marks (left.marks + left.rows) right.rows m.marks
      → Done Union supply m stack (Ok (with_table stack left.slot width (left.rows + right.rows))) (memory_of us ks ns)
  union_left h v k n = rw (v, k, n) (union-made h)
