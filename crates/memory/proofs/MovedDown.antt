-- Rows written in the last slot, moved down to the beginning of a slot. Assumes nothing.
use Prim.Native.Nat.{ℕ, ◌+◌, ◌*◌, ◌≤◌}
use mathlib.Core.Path.{◌≡◌, refl, sym, ap, ◌∙◌}
use mathlib.Core.Bool.{Bool, cond}
use mathlib.Core.List.{List, map}
use native.Mathlib.Omega.{arith}
use lib.ListN.{length, take, drop, length-map}
use lib.Seq.{take_at, take-take}
use Rattle.cells.specs.promises.Cells.{moved, can_move, Wide}
use Rattle.cells.specs.promises.Work.{Work, cells_in, room, mark_room}
use Rattle.cells.specs.promises.Written.{Written, Put}
use Rattle.memory.specs.promises.Stack.{last_slot, last_marks, RowsAt, MarksAt}
use Rattle.plan.specs.Table.{Row, flat, Each}
use Rattle.cells.proofs.CellLaws.{moved_in, cells-moved, kept-moved, can-move, marks_then, marks-written}
use Rattle.cells.proofs.RowReads.{flat-length}
use Rattle.cells.proofs.Written.{Moves, down, nothing_written, then-copied, as_long, below-written, from-written}

module _ {before w : Work} (at columns count : ℕ) (rows : List Row) (put : Put last_slot (flat rows) before w) (wide : Each (Wide columns) rows) (counted : length rows ≡ count) (low : at ≤ last_slot)
    (few : count * columns ≤ 2048) (values-room : room ≤ length before.values) (labels-room : room ≤ length before.labels) where
  pub down-values : Moves last_slot at (count * columns) (length w.values)
  down-values = down low (omega (arith, few, put.kept.as-many-values, values-room))

  pub down-labels : Moves last_slot at (count * columns) (length w.labels)
  down-labels = down low (omega (arith, few, put.kept.as-many-labels, labels-room))

  pub moved_down : RowsAt at rows before (moved_in last_slot at (count * columns) w)
  moved_down =
      let n = count * columns in
      let m = cells_in w in
      let written = put.written in
      let long : length (flat rows) ≡ n = flat-length columns rows wide ∙ ap (λ (k : ℕ). k * columns) counted in
      let reach : last_slot + n ≤ length m = omega (arith, long, written.room, as_long written) in
      let cells : take n (drop last_slot m) ≡ flat rows = ap (take n) (from-written written) ∙ take_at (flat rows) _ n long in
      let again : Written m at (flat rows) (cells_in (moved_in last_slot at n w))
      = rw (cells-moved w down-values down-labels, ← cells) (then-copied (nothing_written m at (omega (arith, reach))) last_slot at n (omega arith) low reach) in
      record {
        read = ap (take (length (flat rows))) (from-written again) ∙ take_at (flat rows) _ (length (flat rows)) refl;
        lower = below-written again ∙ sym (take-take at last_slot m low) ∙ ap (take at) (below-written written) ∙ take-take at last_slot (cells_in before) low;
        as_long = as_long again ∙ as_long written;
        kept = kept-moved down-values down-labels (omega (arith, few)) put.kept;
      }

-- the same of their marks, after what `move_marks` answers and leaves
module _ {before marks after : List ℕ} {r : Bool} (at count : ℕ) (rows : List Row) (written : Written before last_marks (map (λ row. row.mark) rows) marks) (counted : length rows ≡ count)
    (low : at + 256 ≤ last_marks) (few : count ≤ 256) (mark-room : mark_room ≤ length before)
    (told : r ≡ can_move last_marks at count (length marks)) (left : after ≡ cond r (moved last_marks at count marks) marks) where
  pub marks-down : MarksAt at rows before after
  marks-down =
      let news = map (λ row. row.mark) rows in
      let long : length news ≡ count = length-map rows (λ row. row.mark) ∙ counted in
      let reach : last_marks + count ≤ length marks = omega (arith, as_long written) in
      let is : after ≡ moved last_marks at count marks = left ∙ rw (told ∙ can-move {to = at} (down (omega arith) reach)) in
      let part : take count (drop last_marks marks) ≡ news = ap (take count) (from-written written) ∙ take_at news _ count long in
      let again : Written marks at news after
      = rw (is, ← part) (then-copied (nothing_written marks at (omega (arith, reach))) last_marks at count (omega arith) (omega arith) reach) in
      record {
        read = ap (take (length rows)) (from-written again) ∙ take_at news _ (length rows) (long ∙ sym counted);
        lower = below-written again ∙ sym (take-take at last_marks marks (omega arith)) ∙ ap (take at) (below-written written) ∙ take-take at last_marks before (omega arith);
        kept = marks_then (marks-written written (omega (arith, long))) (marks-written again (omega (arith, long)));
      }
