-- Two tables that fit a join, as they are tested. Assumes nothing.
use Prim.Native.Nat.{ℕ, ◌+◌, ◌*◌, ◌≤◌, ◌<◌}
use mathlib.Core.Path.{◌≡◌}
use mathlib.Core.Bool.{true, ◌&&◌, and-eq-true_iff}
use native.Mathlib.Omega.{arith}
use lib.Dec.{leb, ltb}
use borrow.Author.Tests.{le-leb, leb-true, lt-ltb, ltb-true}
use Rattle.cells.specs.promises.Cells.{within}
use Rattle.cells.specs.promises.Search.{table_within}
use Rattle.cells.specs.promises.Work.{room, mark_room}
use Rattle.memory.specs.promises.Stack.{last_slot, last_marks}
use Rattle.pairs.specs.declared.Side.{Side}
use Rattle.pairs.specs.promises.Pairs.{SidesFit, side_fits, sides_fit, MarksBelow, marks_fit}
use Rattle.cells.proofs.CellLaws.{within-le, le-within}
use Rattle.cells.proofs.Searching.{within-table}

pub side-parts : (side : Side) → side_fits side ≡ true → (side.table.rows ≤ 256) × (side.table.columns ≤ 8) × (side.table.at + side.table.rows * side.table.columns ≤ last_slot) × (side.key < side.table.columns)
unfolding side_fits
side-parts side e =
    let both = (and-eq-true_iff (table_within side.table.at side.table.rows side.table.columns last_slot) (ltb side.key side.table.columns)).0 e in
    let t = within-table side.table.at side.table.rows side.table.columns last_slot both.0 in
    (t.0, t.1, t.2, ltb-true side.key side.table.columns both.1)

parts-side : (side : Side) → side.table.rows ≤ 256 → side.table.columns ≤ 8 → side.table.at + side.table.rows * side.table.columns ≤ last_slot → side.key < side.table.columns → side_fits side ≡ true
unfolding side_fits
parts-side side r c b k = rw (le-leb side.table.rows 256 r, le-leb side.table.columns 8 c, le-within side.table.at (side.table.rows * side.table.columns) last_slot b, lt-ltb side.key side.table.columns k)

pub to-sides : (values labels : ℕ) (left right : Side) → sides_fit values labels left right ≡ true → SidesFit values labels left right
unfolding sides_fit
to-sides values labels left right e =
    let a = (and-eq-true_iff (side_fits left && side_fits right) (leb (left.table.columns + right.table.columns) 9 && leb room values && leb room labels)).0 e in
    let two = (and-eq-true_iff (side_fits left) (side_fits right)).0 a.0 in
    let b = (and-eq-true_iff (leb (left.table.columns + right.table.columns) 9 && leb room values) (leb room labels)).0 a.1 in
    let c = (and-eq-true_iff (leb (left.table.columns + right.table.columns) 9) (leb room values)).0 b.0 in
    let l = side-parts left two.0 in
    let r = side-parts right two.1 in
    record {
      values-room = leb-true room values c.1;
      labels-room = leb-true room labels b.1;
      left-rows = l.0;
      right-rows = r.0;
      left_below = l.2;
      right-below = r.2;
      left_key = l.3;
      right_key = r.3;
      few = omega (arith, leb-true (left.table.columns + right.table.columns) 9 c.0, r.3);
    }

pub sides-fit : (values labels : ℕ) (left right : Side) → SidesFit values labels left right → sides_fit values labels left right ≡ true
unfolding sides_fit
sides-fit values labels left right s = rw (
  parts-side left s.left-rows (omega (arith, s.few)) s.left_below s.left_key,
  parts-side right s.right-rows (omega (arith, s.few, s.left_key)) s.right-below s.right_key,
  le-leb (left.table.columns + right.table.columns) 9 (omega (arith, s.few)),
  le-leb room values s.values-room,
  le-leb room labels s.labels-room,
)

pub to-marks-below : (marks : ℕ) (left : Side) → marks_fit marks left ≡ true → MarksBelow left marks
unfolding marks_fit
to-marks-below marks left e =
    let both = (and-eq-true_iff (within left.table.marks left.table.rows last_marks) (leb mark_room marks)).0 e in
    record { below = within-le left.table.marks left.table.rows last_marks both.0; mark-room = leb-true mark_room marks both.1 }

pub marks-fit : (marks : ℕ) (left : Side) → MarksBelow left marks → marks_fit marks left ≡ true
unfolding marks_fit
marks-fit marks left b = rw (le-within left.table.marks left.table.rows last_marks b.below, le-leb mark_room marks b.mark-room)
