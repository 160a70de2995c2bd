-- The loop that makes a table whose rows each have one cell more: the rows made so far stand in the last slot, and nothing below it is changed.
-- Assumes nothing.
use Prim.Native.Nat.{ℕ, ◌+◌, ◌*◌, ◌≤◌, ◌<◌}
use mathlib.Core.Path.{◌≡◌, sym, ap, ◌∙◌}
use mathlib.Core.Bool.{true, ◌&&◌, and-eq-true_iff}
use mathlib.Core.List.{List, [], ◌∷◌, ◌++◌, append-nil}
use native.Mathlib.Nat.{zero-add, mul-le-mul_right, mul-le-mul}
use native.Mathlib.Numerals.{add-one}
use native.Mathlib.Omega.{arith}
use lib.Dec.{leb, ltb}
use lib.ListN.{length, take, drop, length-drop}
use borrow.Author.Tests.{leb-true, ltb-true, le-leb, lt-ltb}
use Rattle.cells.specs.promises.Cells.{bare_rows, Wide, row_from}
use Rattle.cells.specs.promises.Search.{table_within}
use Rattle.cells.specs.promises.Work.{Work, cells_in, room, Kept}
use Rattle.cells.specs.promises.Written.{Written, CellsWritten, Put}
use Rattle.live_tables.specs.declared.LiveTable.{LiveTable}
use Rattle.memory.specs.promises.Stack.{last_slot, rows_in, Inside, RowsAt}
use Rattle.plan.specs.Table.{Each, Cell, Row, flat}
use Rattle.extension.specs.promises.Rows.{extended, extended_from}
use Rattle.extension.specs.promises.Extending.{extends}
use Rattle.cells.proofs.CellLaws.{moved_in, kept-none, kept_then, le-within}
use Rattle.cells.proofs.RowReads.{row_of, row-cells, flat_append, flat-length}
use Rattle.cells.proofs.Rows.{rows-wide, rows-more, rows-length}
use Rattle.cells.proofs.Searching.{within-table}
use Rattle.cells.proofs.Written.{Moves, as_long, nothing_written, below-written, then-written}
use Rattle.memory.proofs.LiveTables.{cells-room, rows-room}
use Rattle.memory.proofs.MovedDown.{down-values, down-labels, moved_down}
use Rattle.memory.proofs.Stacks.{part-of-front}
use Rattle.extension.proofs.Rows.{extended-wide, extended-count, extended-more}

-- a table that can get a column: what was tested
pub record Extendable (top : LiveTable) (column values labels : ℕ) : Type 0 where
  pub inside : Inside top values labels
  pub narrow : top.columns + 1 ≤ 8
  pub has-column : column < top.columns

pub extendable : (top : LiveTable) (column values labels : ℕ) → extends top column values labels ≡ true → Extendable top column values labels
extendable top column values labels e =
    let within = table_within top.at top.rows top.columns last_slot in
    let a = (and-eq-true_iff (within && ltb column top.columns && ltb top.columns 8 && leb room values) (leb room labels)).0 e in
    let b = (and-eq-true_iff (within && ltb column top.columns && ltb top.columns 8) (leb room values)).0 a.0 in
    let c = (and-eq-true_iff (within && ltb column top.columns) (ltb top.columns 8)).0 b.0 in
    let d = (and-eq-true_iff within (ltb column top.columns)).0 c.0 in
    let t = within-table top.at top.rows top.columns last_slot d.0 in
    record {
      inside = record { few-rows = t.0; few-columns = t.1; below = t.2; values-room = leb-true room values b.1; labels-room = leb-true room labels a.1 };
      narrow = omega (arith, ltb-true top.columns 8 c.1);
      has-column = ltb-true column top.columns d.1;
    }

pub extends-is : {top : LiveTable} {column values labels : ℕ} → Inside top values labels → top.columns + 1 ≤ 8 → column < top.columns → extends top column values labels ≡ true
extends-is {top} {column} {values} {labels} r narrow h = rw (
  le-leb top.rows 256 r.few-rows,
  le-leb top.columns 8 r.few-columns,
  le-within top.at (top.rows * top.columns) last_slot r.below,
  lt-ltb column top.columns h,
  lt-ltb top.columns 8 (omega arith),
  le-leb room values r.values-room,
  le-leb room labels r.labels-room,
)

-- where a row of the table stands, and where the row made of it
abbrev pub from_of : LiveTable → ℕ → ℕ
from_of top row = top.at + row * top.columns

abbrev pub to_of : LiveTable → ℕ → ℕ
to_of top row = last_slot + row * (top.columns + 1)

module _ {top : LiveTable} {values labels : ℕ} (r : Inside top values labels) (narrow : top.columns + 1 ≤ 8) {row : ℕ} (h : row < top.rows) where
  pub places : (from_of top row + top.columns ≤ last_slot) × (last_slot ≤ to_of top row) × (to_of top row + top.columns < room)
  places =
      let reach : row * top.columns + top.columns ≤ top.rows * top.columns = omega (arith, mul-le-mul_right top.columns h) in
      let room-left : row * (top.columns + 1) + (top.columns + 1) ≤ 2048 = omega (arith, mul-le-mul_right (top.columns + 1) h, mul-le-mul r.few-rows narrow) in
      (omega (arith, reach, r.below), omega arith, omega (arith, room-left))

-- the rows made of a table's first ones
abbrev pub made_of : (ℕ → Row → Cell) → LiveTable → Work → ℕ → List Row
made_of new top w row = extended_from new 0 (bare_rows top.columns row (drop top.at (cells_in w)))

made-count : (new : ℕ → Row → Cell) (top : LiveTable) (w : Work) (row : ℕ) → length (made_of new top w row) ≡ row
made-count new top w row = extended-count new 0 (bare_rows top.columns row (drop top.at (cells_in w))) ∙ rows-length top.columns row (drop top.at (cells_in w))

pub record Making (new : ℕ → Row → Cell) (top : LiveTable) (w₀ w : Work) (row : ℕ) : Type 0 where
  pub row-le : row ≤ top.rows
  pub written : CellsWritten w₀ last_slot (flat (made_of new top w₀ row)) w
  pub same : Kept w₀ w

-- a row of a table
abbrev here_of : LiveTable → Work → ℕ → Row
here_of top w row = row_of (cells_in w) top.at top.columns row

module _ {new : ℕ → Row → Cell} {top : LiveTable} {w₀ : Work} (r : Inside top (length w₀.values) (length w₀.labels)) (narrow : top.columns + 1 ≤ 8) where
  pub make-begins : Making new top w₀ w₀ 0
  make-begins = record {
    row-le = omega arith;
    written = nothing_written (cells_in w₀) last_slot (omega (arith, cells-room w₀ r));
    same = kept-none w₀;
  }

  module _ {w : Work} {row : ℕ} (s : Making new top w₀ w row) where
    -- it stands in the slices as they are by now, too
    pub inside-yet : Inside top (length w.values) (length w.labels)
    inside-yet = record {
      few-rows = r.few-rows;
      few-columns = r.few-columns;
      below = r.below;
      values-room = omega (arith, s.same.as-many-values, r.values-room);
      labels-room = omega (arith, s.same.as-many-labels, r.labels-room);
    }

    module _ (h : row < top.rows) where
      reach : row * top.columns + top.columns ≤ top.rows * top.columns
      reach = omega (arith, mul-le-mul_right top.columns h)

      long : last_slot + length (flat (made_of new top w₀ row)) ≡ to_of top row
      long =
          let wide = rows-wide top.columns row (drop top.at (cells_in w₀)) (simp length-drop (omega (arith, reach, r.below, cells-room w₀ r))) in
          let count : length (flat (made_of new top w₀ row)) ≡ row * (top.columns + 1)
          = flat-length (top.columns + 1) (made_of new top w₀ row) (extended-wide new top.columns 0 (bare_rows top.columns row (drop top.at (cells_in w₀))) wide)
          ∙ ap (λ (n : ℕ). n * (top.columns + 1)) (made-count new top w₀ row) in
          omega (arith, count)

      pub row-again : {after : Work} → Put (to_of top row) (extended new row (row_from top.columns (cells_in w) (from_of top row))).cells w after → Making new top w₀ after (row + 1)
      row-again {after} one =
          let from = from_of top row in
          let below : from + top.columns ≤ last_slot = (places r narrow h).0 in
          let cells : take top.columns (drop from (cells_in w)) ≡ (here_of top w₀ row).cells
          = sym (part-of-front from top.columns last_slot (cells_in w) below (omega (arith, as_long s.written, cells-room w₀ r))) ∙ ap (λ (l : List Cell). take top.columns (drop from l)) (below-written s.written)
          ∙ part-of-front from top.columns last_slot (cells_in w₀) below (omega (arith, cells-room w₀ r)) ∙ sym (row-cells (cells_in w₀) top.at top.columns row) in
          let put : Written (cells_in w) (to_of top row) (extended new row (here_of top w₀ row)).cells (cells_in after) = rw (← cells) one.written in
          let more : made_of new top w₀ (row + 1) ≡ (made_of new top w₀ row) ++ (extended new row (here_of top w₀ row) ∷ [])
          = ap (made_of new top w₀) (add-one row) ∙ ap (extended_from new 0) (rows-more top.columns row (drop top.at (cells_in w₀)))
          ∙ extended-more new 0 (bare_rows top.columns row (drop top.at (cells_in w₀))) _
          ∙ ap (λ (k : ℕ). made_of new top w₀ row ++ (extended new k (here_of top w₀ row) ∷ [])) (zero-add _ ∙ rows-length top.columns row (drop top.at (cells_in w₀))) in
          let longer : flat (made_of new top w₀ (row + 1)) ≡ flat (made_of new top w₀ row) ++ (extended new row (here_of top w₀ row)).cells
          = ap flat more ∙ flat_append (made_of new top w₀ row) _ ∙ ap (λ (t : List Cell). flat (made_of new top w₀ row) ++ t) (append-nil _) in
          record {
            row-le = omega arith;
            written = rw longer (then-written s.written (sym long) put);
            same = kept_then s.same one.kept;
          }

-- the table made, moved down to the place of the table that it is made of
module _ (new : ℕ → Row → Cell) {top : LiveTable} {w₀ w : Work} (r : Inside top (length w₀.values) (length w₀.labels)) (narrow : top.columns + 1 ≤ 8)
    (put : Put last_slot (flat (extended_from new 0 (rows_in w₀ top))) w₀ w) where
  wide : Each (Wide (top.columns + 1)) (extended_from new 0 (rows_in w₀ top))
  wide = extended-wide new top.columns 0 (rows_in w₀ top) (rows-wide top.columns top.rows (drop top.at (cells_in w₀)) (rows-room w₀ r))

  counted : length (extended_from new 0 (rows_in w₀ top)) ≡ top.rows
  counted = made-count new top w₀ top.rows

  few : top.rows * (top.columns + 1) ≤ 2048
  few = mul-le-mul r.few-rows narrow

  pub table-values : Moves last_slot top.at (top.rows * (top.columns + 1)) (length w.values)
  table-values = down-values top.at (top.columns + 1) top.rows _ put wide counted (omega (arith, r.below)) few r.values-room r.labels-room

  pub table-labels : Moves last_slot top.at (top.rows * (top.columns + 1)) (length w.labels)
  table-labels = down-labels top.at (top.columns + 1) top.rows _ put wide counted (omega (arith, r.below)) few r.values-room r.labels-room

  pub table-down : RowsAt top.at (extended_from new 0 (rows_in w₀ top)) w₀ (moved_in last_slot top.at (top.rows * (top.columns + 1)) w)
  table-down = moved_down top.at (top.columns + 1) top.rows _ put wide counted (omega (arith, r.below)) few r.values-room r.labels-room
