-- SCAN in work memory and its meaning. Assumes nothing.
use Prim.Native.Nat.{ℕ, ◌+◌, ◌-◌, ◌*◌, ◌≤◌, ◌<◌}
use mathlib.Core.Path.{◌≡◌, refl, sym, ap, ap₂, ◌∙◌}
use mathlib.Core.Bool.{Bool, true, cond, ◌&&◌, and-eq-true_iff}
use mathlib.Core.List.{List, [], ◌∷◌, ◌++◌, map, append_assoc}
use native.Mathlib.Nat.{add-zero, mul-le-mul}
use native.Mathlib.Omega.{arith}
use lib.Dec.{leb}
use lib.IntN.{ℤ}
use lib.ListN.{length, get_or, take, drop, length-map, length-take}
use lib.Seq.{take_all}
use borrow.Author.Tests.{leb-true, ltb-true, le-leb, lt-ltb}
use Rattle.cells.specs.promises.Cells.{cells_of}
use Rattle.plan.specs.Sheets.{marks_of, with_marks}
use Rattle.plan.specs.Supply.{supplied}
use Rattle.plan.specs.Table.{flat, Cell, Row, rows_of}
use Rattle.cells.specs.promises.Work.{Work, Memory, work, room, mark_room, Kept}
use Rattle.cells.specs.promises.Written.{Written, CellsWritten}
use Rattle.container.specs.Contents.{tables_of}
use Rattle.layout.specs.Layout.{part_count, part_of}
use Rattle.mark_reader.specs.promises.Marks as of-marks
use Rattle.live_tables.specs.declared.Stack.{Stack}
use Rattle.std.specs.Prelude.{Option, Some, Ok}
use Rattle.memory.specs.promises.Stack.{Ready, slot, mark_slot, stack_in, widths_to, with_table}
use Rattle.memory.specs.promises.Steps.{verdict, fits, widths_of, DoneWhere}
use Rattle.plan.specs.Scan.{scanned}
use Rattle.plan.specs.Steps.{check, make, too_many}
use Rattle.plan.specs.Verdict.{fine}
use Rattle.plan.specs.Widths.{enough_tables, columns_exist}
use Rattle.plan.specs.declared.Step.TheVariants.{Scan}
use Rattle.scan.specs.promises.Scanning.{cells_fit, table_fits, scan_fits}
use Rattle.table_part.specs.TablePart.{columns_of, sheets_of, row_count, cell_count, cells_from, table_of}
use Rattle.table_part.specs.declared.Shape.{Shape}
use Rattle.table_part.specs.promises.Shape.{shape_of}
use Rattle.table_reader.specs.promises.Reading.{readable, overwritten, reading_of, values_after, labels_after, Read}
use Rattle.cells.proofs.CellLaws.{cells-length, cells-append, cells-drop, cells-take, marks-written}
use Rattle.cells.proofs.RowReads.{flat-marked}
use Rattle.cells.proofs.Rows.{marked-length, marked-wide, marks-are}
use Rattle.cells.proofs.Written.{as_long, past-any}
use Rattle.mark_reader.proofs.Marks.{marks-length}
use Rattle.memory.proofs.Finish.{made-done, rows_written, marks-put}
use Rattle.memory.proofs.LiveTables.{fits-parts}
use Rattle.table_part.proofs.Laws as part-laws
use Rattle.scan.proofs.Tables.{widths-count, table_is, few-parts}

-- what a scan that fits finds
pub record ScanFits (bytes : List ℕ) (table values labels marks : ℕ) (stack : Stack) : Type 0 where
  pub mark-room : mark_room ≤ marks
  pub is-ready : Ready values labels stack
  pub room-left : stack.depth < 3
  pub exists : table < part_count bytes - 1
  pub numbered : table + 1 < 65536
  pub narrow : columns_of (part_of bytes (table + 1)) ≤ 8
  pub short : row_count (part_of bytes (table + 1)) ≤ 256
  pub named : sheets_of (part_of bytes (table + 1)) ≤ columns_of (part_of bytes (table + 1))
  pub whole : 4 + 12 * cell_count (part_of bytes (table + 1)) ≤ length (part_of bytes (table + 1))

pub scan-parts : (bytes : List ℕ) (table values labels marks : ℕ) (stack : Stack) → ((i : ℕ) → get_or bytes i 0 < 256) → scan_fits bytes table values labels marks stack ≡ true
    → ScanFits bytes table values labels marks stack
unfolding enough_tables columns_exist
scan-parts bytes table values labels marks stack bounds t =
    let widths = widths_of (tables_of bytes) in
    let part = part_of bytes (table + 1) in
    let all = (and-eq-true_iff (leb mark_room marks) (table_fits bytes table values labels stack)).0 t in
    let two = (and-eq-true_iff (fits (Scan table) widths values labels stack) (cells_fit part)).0 all.1 in
    let parts = fits-parts (Scan table) widths values labels stack two.0 in
    let exist = ((and-eq-true_iff (columns_exist (Scan table) widths (widths_to stack stack.depth)) _).0 parts.2).0 in
    let cells = (and-eq-true_iff (leb (columns_of part) 8 && leb (row_count part) 256 && leb (sheets_of part) (columns_of part)) (leb (4 + 12 * cell_count part) (length part))).0 two.1 in
    let header = (and-eq-true_iff (leb (columns_of part) 8 && leb (row_count part) 256) (leb (sheets_of part) (columns_of part))).0 cells.0 in
    let shape = (and-eq-true_iff (leb (columns_of part) 8) (leb (row_count part) 256)).0 header.0 in
    let there : table < part_count bytes - 1 = omega (arith, ltb-true table (length widths) exist, widths-count bytes) in
    record {
      mark-room = leb-true mark_room marks all.0;
      is-ready = parts.0;
      room-left = ltb-true stack.depth 3 parts.1;
      exists = there;
      numbered = omega (arith, there, few-parts bytes bounds);
      narrow = leb-true _ 8 shape.0;
      short = leb-true _ 256 shape.1;
      named = leb-true _ _ header.1;
      whole = leb-true _ _ cells.1;
    }

-- cells taken apart and put together
again : (cells : List Cell) → cells_of (map (λ cell. cell.value) cells) (map (λ cell. cell.label) cells) ≡ cells
again [] = refl
again (cell ∷ rest) = ap (λ (l : List Cell). cell ∷ l) (again rest)

module _ (bytes : List ℕ) (table : ℕ) (m : Memory) (stack : Stack)
    (f : ScanFits bytes table (length m.work.values) (length m.work.labels) (length m.marks) stack) where
  abbrev w : Work
  w = m.work

  abbrev part : List ℕ
  part = part_of bytes (table + 1)

  abbrev at : ℕ
  at = slot stack.depth

  abbrev mark_at : ℕ
  mark_at = mark_slot stack.depth

  abbrev cells : List Cell
  cells = cells_from part 0 (cell_count part)

  abbrev values : List ℤ
  values = map (λ cell. cell.value) cells

  abbrev labels : List ℕ
  labels = map (λ cell. cell.label) cells

  abbrev marks : List ℕ
  marks = marks_of table (table_of part)

  abbrev rows : List Row
  rows = rows_of (columns_of part) marks cells

  abbrev after : Work
  after = work (overwritten w.values at values) (overwritten w.labels at labels)

  few : at + cell_count part ≤ room
  few = omega (arith, f.room-left, mul-le-mul f.short f.narrow)

  can-read : readable part (length w.values) (length w.labels) at ≡ true
  unfolding readable
  can-read = rw (
    le-leb (4 + 12 * cell_count part) (length part) f.whole,
    le-leb (at + cell_count part) (length w.values) (omega (arith, few, f.is-ready.values-room)),
    le-leb (at + cell_count part) (length w.labels) (omega (arith, few, f.is-ready.labels-room)),
  )

  marks-readable : of-marks.readable part table (length m.marks) mark_at ≡ true
  unfolding of-marks.readable
  marks-readable = rw (
    le-leb (sheets_of part) (columns_of part) f.named,
    lt-ltb table 65536 (omega (arith, f.numbered)),
    le-leb (4 + 12 * cell_count part) (length part) f.whole,
    le-leb (mark_at + row_count part) (length m.marks) (omega (arith, f.room-left, f.short, f.mark-room)),
  )

  -- what reading answers and leaves
  pub scan-answer : {answer : Option Shape} {v' : List ℤ} {l' : List ℕ} → Read part w.values w.labels at answer v' l' → answer ≡ Some (shape_of part)
  unfolding reading_of
  scan-answer r = r.answers ∙ rw can-read

  pub scan-after : {answer : Option Shape} {v' : List ℤ} {l' : List ℕ} → Read part w.values w.labels at answer v' l' → work v' l' ≡ after
  unfolding values_after labels_after
  scan-after r = ap₂ work (r.writes_values ∙ rw can-read) (r.writes_labels ∙ rw can-read)

  pub scan-marks : {r : Bool} {after : List ℕ} → r ≡ of-marks.readable part table (length m.marks) mark_at
      → after ≡ cond r (of-marks.marks_after part table m.marks mark_at) m.marks → after ≡ of-marks.marks_after part table m.marks mark_at
  scan-marks told left = left ∙ rw (told ∙ marks-readable)

  -- ---- the cells

  cells_count : length cells ≡ cell_count part
  cells_count = part-laws.cells-length part 0 (cell_count part)

  -- the elements of a column of the cells, written from the place on
  column-written : {A : Type 0} (list : List A) (field : Cell → A) → room ≤ length list → Written list at (map field cells) (overwritten list at (map field cells))
  column-written list field h = record { room = omega (arith, few, length-map cells field, cells_count); is = append_assoc (take at list) (map field cells) _ }

  written-cells : CellsWritten w at cells after
  written-cells =
      let v = w.values in
      let l = w.labels in
      let long-v : length values ≡ length cells = length-map cells (λ cell. cell.value) in
      let long-l : length labels ≡ length cells = length-map cells (λ cell. cell.label) in
      let fronts : length (take at v) ≡ length (take at l) = simp length-take (omega (arith, few, f.is-ready.values-room, f.is-ready.labels-room)) in
      record {
        room = omega (arith, few, cells_count, cells-length w room f.is-ready.values-room f.is-ready.labels-room);
        is = ap₂ cells_of (append_assoc (take at v) values _) (append_assoc (take at l) labels _)
            ∙ cells-append (take at v) (values ++ drop (at + length values) v) (take at l) (labels ++ drop (at + length labels) l) fronts
            ∙ ap₂ ◌++◌ (cells-take at v l)
            (cells-append values (drop (at + length values) v) labels (drop (at + length labels) l) (long-v ∙ sym long-l)
            ∙ ap₂ ◌++◌ (again cells)
            (ap₂ (λ (n m : ℕ). cells_of (drop (at + n) v) (drop (at + m) l)) long-v long-l ∙ cells-drop (at + length cells) v l));
      }

  kept : Kept w after
  kept =
      let wv = column-written w.values (λ cell. cell.value) f.is-ready.values-room in
      let wl = column-written w.labels (λ cell. cell.label) f.is-ready.labels-room in
      record {
        as-many-values = as_long wv;
        as-many-labels = as_long wl;
        values-past = past-any wv room (omega (arith, few, cells_count, length-map cells (λ cell. cell.value)));
        labels-past = past-any wl room (omega (arith, few, cells_count, length-map cells (λ cell. cell.label)));
      }

  -- ---- the rows

  marks-count : length marks ≡ row_count part
  unfolding table_of
  marks-count = marks-length (sheets_of part) (columns_of part) table 0 (row_count part) cells

  -- the marks, written from their place on
  written-marks : Written m.marks mark_at marks (of-marks.marks_after part table m.marks mark_at)
  written-marks = record { room = omega (arith, marks-count, f.room-left, f.short, f.mark-room); is = rw marks-count }

  all-cells : flat rows ≡ cells
  all-cells = flat-marked (columns_of part) marks cells ∙ take_all (length marks * columns_of part) cells (rw marks-count (omega (arith, cells_count)))

  made-is : (draws : List ℤ) → make (Scan table) (supplied (tables_of bytes) draws) (stack_in m stack) ≡ record { columns = columns_of part; rows = rows }
  unfolding make scanned with_marks table_of
  made-is draws = table_is bytes table f.exists

  nothing-refused : (draws : List ℤ) → verdict (Scan table) (supplied (tables_of bytes) draws) (stack_in m stack) ≡ fine
  unfolding check too_many
  nothing-refused draws = refl

  pub scan-made : {fit : Bool} → fit ≡ true → {shape : Shape} {stack' : Stack} {w' : Work} {marks' : List ℕ} → shape ≡ shape_of part
      → stack' ≡ with_table stack stack.depth shape.columns shape.rows → w' ≡ after → marks' ≡ of-marks.marks_after part table m.marks mark_at → (draws : List ℤ)
      → DoneWhere fit (Scan table) (supplied (tables_of bytes) draws) m stack (Ok stack') (record { work = w'; marks = marks' })
  unfolding shape_of
  scan-made t shaped stacked left marked draws =
      let own : Written m.marks mark_at (map (λ row. row.mark) rows) (of-marks.marks_after part table m.marks mark_at) = rw (marks-are (columns_of part) marks cells) written-marks in
      rw (left, marked, stacked, shaped) (made-done (Scan table) (supplied (tables_of bytes) draws) m stack t stack.depth (columns_of part) (row_count part) rows
      (record { work = after; marks = of-marks.marks_after part table m.marks mark_at }) f.is-ready f.mark-room
      (nothing-refused draws) f.room-left (sym (add-zero stack.depth)) (made-is draws) f.narrow f.short (sym (marked-length (columns_of part) marks cells ∙ marks-count))
      (marked-wide (columns_of part) marks cells (rw marks-count (omega (arith, cells_count))))
      refl (rows_written rows (rw all-cells written-cells) kept)
      refl (marks-put rows own (marks-written written-marks (omega (arith, marks-count, f.room-left, f.short)))))
