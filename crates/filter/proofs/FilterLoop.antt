-- The loop of FILTER: the rows passed so far that were kept stand at the table's place, and what is left is as it was. Assumes nothing.
use Prim.Native.Nat.{ℕ, ◌+◌, ◌*◌, ◌≤◌, ◌<◌}
use mathlib.Core.Path.{◌≡◌, refl, sym, ap, ap₂, ◌∙◌}
use mathlib.Core.Bool.{Bool, true, false, cond}
use mathlib.Core.List.{List, [], ◌∷◌, ◌++◌, map, map-append, append-nil}
use native.Mathlib.Nat.{mul-le-mul_right}
use native.Mathlib.Numerals.{add-one}
use native.Mathlib.Omega.{arith}
use lib.IntN.{pos}
use lib.ListN.{length, get_or, take, drop, set, length-append, length-drop, length-map}
use lib.Seq.{take-suc, get_or-drop}
use Rattle.cells.specs.promises.Work.{Memory, cells_in, room, mark_room, Kept}
use Rattle.cells.specs.promises.Written.{Written, CellsWritten}
use Rattle.live_tables.specs.declared.LiveTable.{LiveTable}
use Rattle.memory.specs.promises.Stack.{mark_part, Inside, MarksInside}
use Rattle.plan.specs.Filter.{holds, passes, passing}
use Rattle.plan.specs.Table.{Cell, Row, blank, cell_at, rows_of, flat}
use Rattle.plan.specs.Widths.{operand_column_exists}
use Rattle.plan.specs.declared.Comparison.{Comparison}
use Rattle.plan.specs.declared.Operand.{Operand}
use Rattle.filter.specs.promises.Filtering.{Filtered}
use Rattle.operand.specs.promises.Operands.{operand_at}
use Rattle.cells.proofs.CellLaws.{moved_in, cells-moved, kept-none, kept-moved, marks-written}
use Rattle.cells.proofs.RowReads.{row_of, row-cells, cell-of, value_of, flat_append, flat-length}
use Rattle.cells.proofs.Rows.{marked-wide, marked_more}
use Rattle.memory.proofs.LiveTables.{cells-room}
use Rattle.memory.proofs.Stacks.{marks-count}
use Rattle.operand.proofs.Laws.{operand-of}
use Rattle.cells.proofs.Written.{Moves, down, as_long, nothing_written, one_written, read_past, then-copied}
use Rattle.filter.proofs.RowLaws.{passing-append, passing-wide}

-- the rows kept of a table's first ones
abbrev pub kept_of : (Row → Bool) → LiveTable → Memory → ℕ → List Row
kept_of pass top m row = passing pass (rows_of top.columns (mark_part m.marks top.marks row) (drop top.at (cells_in m.work)))

pub record Filtering (pass : Row → Bool) (top : LiveTable) (m₀ m : Memory) (kept row : ℕ) : Type 0 where
  pub row-le : row ≤ top.rows
  pub kept-is : kept ≡ length (kept_of pass top m₀ row)
  pub kept-le : kept ≤ row
  pub cells : CellsWritten m₀.work top.at (flat (kept_of pass top m₀ row)) m.work
  pub marks : Written m₀.marks top.marks (map (λ row. row.mark) (kept_of pass top m₀ row)) m.marks
  pub same : Kept m₀.work m.work

-- a row of a table
abbrev here_of : LiveTable → Memory → ℕ → Row
here_of top m row = record {
  cells = (row_of (cells_in m.work) top.at top.columns row).cells;
  mark = get_or m.marks (top.marks + row) 0;
}

-- the table stands within memory, and so do its marks
pub record Stand (top : LiveTable) (m : Memory) : Type 0 where
  pub cells : Inside top (length m.work.values) (length m.work.labels)
  pub marks : MarksInside top (length m.marks)

memory-length : {top : LiveTable} (m₀ : Memory) → Stand top m₀ → top.at + top.rows * top.columns ≤ length (cells_in m₀.work)
memory-length m₀ i = omega (arith, i.cells.below, cells-room m₀.work i.cells)

-- memory with a row moved, and its mark
abbrev pub row_moved : LiveTable → ℕ → ℕ → Memory → Memory
row_moved top kept row m = record {
  work = moved_in (top.at + row * top.columns) (top.at + kept * top.columns) top.columns m.work;
  marks = set m.marks (top.marks + kept) (get_or m.marks (top.marks + row) 0);
}

module _ {pass : Row → Bool} {top : LiveTable} {m₀ : Memory} (i : Stand top m₀) where
  pub filter-begins : Filtering pass top m₀ m₀ 0 0
  filter-begins = record {
    row-le = omega arith;
    kept-is = refl;
    kept-le = omega arith;
    cells = nothing_written (cells_in m₀.work) top.at (omega (arith, memory-length m₀ i));
    marks = nothing_written m₀.marks top.marks (omega (arith, i.marks.below, i.marks.mark-room));
    same = kept-none m₀.work;
  }

  module _ {m : Memory} {kept row : ℕ} (s : Filtering pass top m₀ m kept row) (h : row < top.rows) where
    -- where the row stands, and where the next one that is kept is to stand
    abbrev from : ℕ
    from = top.at + row * top.columns

    abbrev to : ℕ
    to = top.at + kept * top.columns

    inside : top.at + row * top.columns + top.columns ≤ top.at + top.rows * top.columns
    inside = omega (arith, mul-le-mul_right top.columns h)

    -- the marks of the rows passed so far, and of this one
    count : length (mark_part m₀.marks top.marks row) ≡ row
    count = marks-count m₀.marks top.marks row (omega (arith, i.marks.below, i.marks.mark-room))

    wide : length (flat (kept_of pass top m₀ row)) ≡ kept * top.columns
    wide =
        let first = rows_of top.columns (mark_part m₀.marks top.marks row) (drop top.at (cells_in m₀.work)) in
        flat-length top.columns (kept_of pass top m₀ row) (passing-wide top.columns pass first (marked-wide top.columns (mark_part m₀.marks top.marks row) (drop top.at (cells_in m₀.work)) (rw count (simp length-drop (omega (arith, memory-length m₀ i, inside))))))
        ∙ ap (λ (n : ℕ). n * top.columns) (sym s.kept-is)

    marked : length (map (λ row. row.mark) (kept_of pass top m₀ row)) ≡ kept
    marked = length-map (kept_of pass top m₀ row) (λ row. row.mark) ∙ sym s.kept-is

    behind : kept * top.columns ≤ row * top.columns
    behind = mul-le-mul_right top.columns s.kept-le

    pub values-reach : from + top.columns ≤ length m.work.values
    values-reach = omega (arith, inside, i.cells, s.same.as-many-values)

    labels-reach : from + top.columns ≤ length m.work.labels
    labels-reach = omega (arith, inside, i.cells, s.same.as-many-labels)

    -- what the row holds
    value-is : (column : ℕ) → column < top.columns → (cell_at column (here_of top m₀ row)).value ≡ get_or m.work.values (from + column) (pos 0)
    value-is column k =
        ap (λ (cell : Cell). cell.value) (cell-of (cells_in m₀.work) top.at top.columns row column k)
        ∙ value_of (cells_in m₀.work) m.work (from + column) (omega (arith, values-reach)) (omega (arith, labels-reach))
        (read_past s.cells (from + column) blank (omega (arith, wide, behind)))

    mark-is : get_or m.marks (top.marks + row) 0 ≡ get_or m₀.marks (top.marks + row) 0
    mark-is = read_past s.marks (top.marks + row) 0 (omega (arith, marked, s.kept-le))

    more : kept_of pass top m₀ (row + 1) ≡ (kept_of pass top m₀ row) ++ cond (pass (here_of top m₀ row)) ((here_of top m₀ row) ∷ []) []
    more =
        let cells = drop top.at (cells_in m₀.work) in
        let marks = mark_part m₀.marks top.marks row in
        let mark = get_or m₀.marks (top.marks + row) 0 in
        let longer : mark_part m₀.marks top.marks (row + 1) ≡ marks ++ (mark ∷ [])
        = ap (mark_part m₀.marks top.marks) (add-one row) ∙ take-suc (drop top.marks m₀.marks) row 0 (simp length-drop (omega (arith, i.marks.below, i.marks.mark-room)))
        ∙ ap (λ (n : ℕ). marks ++ (n ∷ [])) (get_or-drop top.marks m₀.marks row 0) in
        ap (λ (l : List ℕ). passing pass (rows_of top.columns l cells)) longer ∙ ap (passing pass) (marked_more top.columns marks mark cells)
        ∙ ap (λ (n : ℕ). passing pass (rows_of top.columns marks cells ++ (record { cells = take top.columns (drop (n * top.columns) cells); mark = mark } ∷ []))) count
        ∙ passing-append pass (rows_of top.columns marks cells) ((here_of top m₀ row) ∷ [])

    row-skipped : pass (here_of top m₀ row) ≡ false → Filtering pass top m₀ m kept (row + 1)
    row-skipped e =
        let none : kept_of pass top m₀ (row + 1) ≡ (kept_of pass top m₀ row) = more ∙ rw e (append-nil (kept_of pass top m₀ row)) in
        record {
          row-le = omega arith;
          kept-is = s.kept-is ∙ ap length (sym none);
          kept-le = omega (arith, s.kept-le);
          cells = rw none s.cells;
          marks = rw none s.marks;
          same = s.same;
        }

    not_after : to ≤ from
    not_after = omega (arith, behind)

    pub places : (to + top.columns ≤ room) × (from + top.columns ≤ room) × (kept ≤ 256) × (row ≤ 256)
    places = (
      omega (arith, not_after, inside, i.cells.below),
      omega (arith, inside, i.cells.below),
      omega (arith, s.kept-le, i.cells.few-rows),
      omega (arith, i.cells.few-rows),
    )

    -- the marks that are read and written stand within their slice
    pub mark-places : (top.marks + row < length m.marks) × (top.marks + kept < length m.marks) × (top.marks + row < mark_room) × (top.marks + kept < mark_room)
    mark-places = (
      omega (arith, as_long s.marks, i.marks.below, i.marks.mark-room),
      omega (arith, as_long s.marks, i.marks.below, i.marks.mark-room, s.kept-le),
      omega (arith, i.marks.below),
      omega (arith, i.marks.below, s.kept-le),
    )

    pub in-values : Moves from to top.columns (length m.work.values)
    in-values = down not_after values-reach

    pub in-labels : Moves from to top.columns (length m.work.labels)
    in-labels = down not_after labels-reach

    row_kept : pass (here_of top m₀ row) ≡ true → Filtering pass top m₀ (row_moved top kept row m) (kept + 1) (row + 1)
    row_kept e =
        let rows = kept_of pass top m₀ row in
        let here = here_of top m₀ row in
        let w₀ = cells_in m₀.work in
        let one : kept_of pass top m₀ (row + 1) ≡ rows ++ (here ∷ []) = more ∙ rw e in
        let cells : here.cells ++ [] ≡ take top.columns (drop from w₀)
        = append-nil here.cells ∙ row-cells w₀ top.at top.columns row in
        let longer : flat (kept_of pass top m₀ (row + 1)) ≡ flat rows ++ take top.columns (drop from w₀)
        = ap flat one ∙ flat_append rows (here ∷ []) ∙ ap (λ (t : List Cell). flat rows ++ t) cells in
        let marks : map (λ row. row.mark) (kept_of pass top m₀ (row + 1)) ≡ map (λ row. row.mark) rows ++ (here.mark ∷ []) = ap (map (λ row. row.mark)) one ∙ map-append (λ row. row.mark) rows (here ∷ []) in
        let place : top.marks + length (map (λ row. row.mark) rows) ≡ top.marks + kept = ap (λ (n : ℕ). top.marks + n) marked in
        record {
          row-le = omega arith;
          kept-is = ap (λ (n : ℕ). n + 1) s.kept-is ∙ sym (ap length one ∙ length-append rows (here ∷ []));
          kept-le = omega (arith, s.kept-le);
          cells = rw (longer, cells-moved m.work in-values in-labels)
              (then-copied s.cells from to top.columns (omega (arith, wide)) not_after (omega (arith, inside, memory-length m₀ i)));
          marks = rw (marks, mark-is) (rw place at (one_written s.marks here.mark (omega (arith, place, i.marks.below, i.marks.mark-room, s.kept-le))));
          same = kept-moved in-values in-labels (omega (arith, places)) s.same;
        }

-- the row that the loop has come to: its test, and what follows by the answer
module _ (column : ℕ) (comparison : Comparison) (operand : Operand) {top : LiveTable} {m₀ m : Memory} {kept row : ℕ} (i : Stand top m₀)
    (s : Filtering (passes column comparison operand) top m₀ m kept row) (h : row < top.rows) (k : column < top.columns) (f : operand_column_exists operand top.columns ≡ true) {answer : Bool}
    (e : answer ≡ holds comparison (get_or m.work.values (top.at + row * top.columns + column) (pos 0)) (operand_at m.work.values (top.at + row * top.columns) operand)) where
  test-is : passes column comparison operand (here_of top m₀ row) ≡ answer
  test-is =
      ap₂ (holds comparison) (value-is i s h column k) (operand-of (here_of top m₀ row) m.work.values (top.at + row * top.columns) top.columns (value-is i s h) operand f)
      ∙ sym e

  pub passed : answer ≡ true → Filtering (passes column comparison operand) top m₀ (row_moved top kept row m) (kept + 1) (row + 1)
  passed t = row_kept i s h (test-is ∙ t)

  pub failed : answer ≡ false → Filtering (passes column comparison operand) top m₀ m kept (row + 1)
  failed t = row-skipped i s h (test-is ∙ t)

-- all rows of the table have been tested
pub filter-ends : {pass : Row → Bool} {top : LiveTable} {m₀ m : Memory} {kept row : ℕ} → Stand top m₀ → row ≡ top.rows → Filtering pass top m₀ m kept row → Filtered top pass m₀ kept m
filter-ends {pass} {top} {m₀} {kept = kept} {row = row} i e s =
    let marked : length (map (λ row. row.mark) (kept_of pass top m₀ row)) ≡ kept
    = length-map (kept_of pass top m₀ row) (λ row. row.mark) ∙ sym s.kept-is in
    record {
      counted = rw (← e) s.kept-is;
      cells = rw (← e) s.cells;
      marks = rw (← e) s.marks;
      kept = record { work = s.same; marks = marks-written s.marks (omega (arith, marked, s.kept-le, s.row-le, i.marks.below)) };
    }
