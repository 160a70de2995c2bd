-- A table in a slot of work memory, before and after its labels change: one overlay is composed onto them, or a year's floor read. Assumes nothing.
use Prim.Native.Nat.{ℕ, suc, ◌+◌, ◌*◌, ◌≤◌, ◌<◌}
use mathlib.Core.Path.{◌≡◌, refl, sym, ap, ap₂, ◌∙◌}
use mathlib.Core.Bool.{true, false}
use mathlib.Core.List.{List, [], ◌∷◌, map}
use native.Mathlib.Omega.{arith}
use lib.Dec.{eqb}
use lib.IntN.{ℤ}
use lib.ListN.{length, take, drop, length-drop, length-map}
use lib.Seq.{take_at, take_all}
use borrow.Author.Tests.{le-leb}
use Rattle.cells.specs.promises.Cells.{cells_of}
use Rattle.cells.specs.promises.Search.{table_within}
use Rattle.cells.specs.promises.Work.{Memory, work, memory_of, cells_in, room, mark_room, Kept}
use Rattle.cells.specs.promises.Written.{Written}
use Rattle.cells.proofs.CellLaws.{cells-length, cells-drop, cells-take, values-front, labels-front, le-within}
use Rattle.cells.proofs.Written.{as_long, below-written, from-written, past-any}
use Rattle.cells.proofs.RowReads.{flat-marked}
use Rattle.cells.proofs.Rows.{marks-are, marked-same}
use Rattle.floors.specs.Floors.{floored_cell, floored_table}
use Rattle.floors.specs.promises.Flooring.{after_floor}
use Rattle.label_floor.specs.Floor.{floored}
use Rattle.layout.specs.Layout.{part_of}
use Rattle.memory.specs.promises.Stack.{slot, mark_slot, mark_part, table_in}
use Rattle.memory.proofs.Stacks.{fits-slot, marks-count}
use Rattle.overlay_part.specs.OverlayPart.{overlaid_cells, overlaid}
use Rattle.overlay_reader.specs.promises.Composing.{composed_labels, after_overlay}
use Rattle.overlaid.proofs.Overlaid.{marks-same}
use Rattle.overlaid.proofs.Parts.{Formed, labels_from}
use Rattle.overlaid.proofs.Tables.{FormedCell, StricterInputs, Whole, PartPassed, labels-formed, over-stricter, floor-stricter}
use Rattle.plan.specs.Sheets.{InputTable, marks_of, with_marks}
use Rattle.plan.specs.Table.{Cell, Table, Each, flat, rows_of}
use Rattle.plan.proofs.Pairs.{same_length, maps-same}

-- ---- labels and cells

abbrev labels_of : List Cell → List ℕ
labels_of cells = map (λ cell. cell.label) cells

abbrev values_of : List Cell → List ℤ
values_of cells = map (λ cell. cell.value) cells

-- a list of cells is that of its values and labels
put-together : (cells : List Cell) → cells_of (values_of cells) (labels_of cells) ≡ cells
put-together [] = refl
put-together (cell ∷ rest) = ap (λ (l : List Cell). cell ∷ l) (put-together rest)

-- of well-formed labels the labels composed are those of the cells with the overlay
composed-so : (part : List ℕ) (cell : ℕ) (cells : List Cell) → Each FormedCell cells → Each Formed (labels_from part cell (length cells))
    → composed_labels part cell (labels_of cells) ≡ labels_of (overlaid_cells part cell cells)
composed-so part cell [] f l = refl
composed-so part cell (next ∷ rest) f l = ap₂ ◌∷◌ (rw (f.0, l.0)) (composed-so part (suc cell) rest f.1 l.1)

-- and labels under the floor are those of the cells under it
floored-so : (year : ℕ) (cells : List Cell) → map (floored year) (labels_of cells) ≡ labels_of (map (floored_cell year) cells)
floored-so year [] = refl
floored-so year (next ∷ rest) = ap (λ (l : List ℕ). floored year next.label ∷ l) (floored-so year rest)

-- as many cells, where there are as many labels
as_many : (values : List ℤ) (labels others : List ℕ) → length labels ≡ length others → length (cells_of values labels) ≡ length (cells_of values others)
as_many [] labels others e = refl
as_many (v ∷ vs) [] [] e = refl
as_many (v ∷ vs) [] (o ∷ os) e = absurd (omega (arith, e))
as_many (v ∷ vs) (l ∷ ls) [] e = absurd (omega (arith, e))
as_many (v ∷ vs) (l ∷ ls) (o ∷ os) e = ap suc (as_many vs ls os (omega (arith, e)))

-- ---- a table in a slot

-- another table stands there, and everything below its slot and past work memory is as it was
pub record Changed (before after : Memory) (index columns rows table : ℕ) (other : InputTable) : Type 0 where
  pub is : table_in after index columns rows ≡ with_marks table other
  pub count : length other.cells ≡ rows * columns
  pub below : take (slot index) (cells_in after.work) ≡ take (slot index) (cells_in before.work)
  pub kept : Kept before.work after.work
  pub cells-long : length (cells_in after.work) ≡ length (cells_in before.work)

module _ (m : Memory) (index columns rows : ℕ) (below : index < 3) (few : rows ≤ 256) (narrow : columns ≤ 8)
    (values-room : room ≤ length m.work.values) (labels-room : room ≤ length m.work.labels) (marks-room : mark_room ≤ length m.marks) where
  abbrev at : ℕ
  at = slot index

  abbrev count : ℕ
  count = rows * columns

  abbrev marks : List ℕ
  marks = mark_part m.marks (mark_slot index) rows

  -- its cells, and all that stands behind them
  abbrev here : List Cell
  here = drop at (cells_in m.work)

  fits : at + count ≤ room
  fits = omega (arith, fits-slot rows columns few narrow)

  many-marks : length marks ≡ rows
  many-marks = marks-count m.marks (mark_slot index) rows (omega arith)

  here-is : cells_of (drop at m.work.values) (drop at m.work.labels) ≡ here
  here-is = cells-drop at m.work.values m.work.labels

  -- what a table that stands there has for cells and marks
  module _ (table : ℕ) (p : List ℕ) (input : InputTable) (w : Whole p input) (e : table_in m index columns rows ≡ with_marks table input) where
    rows-equal : rows_of columns marks here ≡ rows_of input.columns (marks_of table input) input.cells
    unfolding with_marks
    rows-equal = ap (λ (t : Table). t.rows) e

    columns-equal : columns ≡ input.columns
    unfolding with_marks
    columns-equal = ap (λ (t : Table). t.columns) e

    marks-here : marks ≡ marks_of table input
    marks-here =
        sym (marks-are columns marks here) ∙ ap (map (λ row. row.mark)) rows-equal ∙ marks-are input.columns (marks_of table input) input.cells

    whole : length (marks_of table input) * input.columns ≡ count
    whole = ap₂ (λ (n c : ℕ). n * c) (sym (ap length marks-here) ∙ many-marks) (sym columns-equal)

    cells-here : length input.cells ≡ count → take count here ≡ input.cells
    cells-here n =
        ap (λ (k : ℕ). take (k * columns) here) (sym many-marks) ∙ sym (flat-marked columns marks here) ∙ ap flat rows-equal
        ∙ flat-marked input.columns (marks_of table input) input.cells ∙ ap (λ (k : ℕ). take k input.cells) whole
        ∙ take_all count input.cells (omega (arith, n))

    abbrev old : List ℕ
    old = m.work.labels

    inside : table_within at rows columns (length old) ≡ true
    inside = rw (le-leb rows 256 few, le-leb columns 8 narrow, le-within at count (length old) (omega (arith, fits)))

    module _ (n : length input.cells ≡ count) where
      old-labels : take count (drop at old) ≡ labels_of input.cells
      old-labels =
          sym (labels-front (work (drop at m.work.values) (drop at old)) count (omega (arith, length-drop at m.work.values, fits)))
          ∙ ap (λ (l : List Cell). labels_of (take count l)) here-is ∙ ap labels_of (cells-here n)

      old-values : take count (drop at m.work.values) ≡ values_of input.cells
      old-values =
          sym (values-front (work (drop at m.work.values) (drop at old)) count (omega (arith, length-drop at old, fits)))
          ∙ ap (λ (l : List Cell). values_of (take count l)) here-is ∙ ap values_of (cells-here n)

      -- after its labels were written over with those of a table of the same shape and values
      module _ (other : InputTable) (s : StricterInputs input other) where
        abbrev over : List Cell
        over = other.cells

        other-count : length over ≡ count
        other-count = sym (same_length s.cells) ∙ n

        many : length (labels_of over) ≡ count
        many = length-map over (λ cell. cell.label) ∙ other-count

        module _ (new : List ℕ) (written : Written old at (labels_of over) new) where
          abbrev m' : Memory
          m' = memory_of m.work.values new m.marks

          new-cells : take count (drop at (cells_in m'.work)) ≡ over
          new-cells =
              ap (take count) (sym (cells-drop at m.work.values new)) ∙ sym (cells-take count (drop at m.work.values) (drop at new))
              ∙ ap₂ cells_of (old-values ∙ maps-same (λ cell. cell.value) (λ a b c. c.value) s.cells) (ap (take count) (from-written written) ∙ take_at (labels_of over) _ count many)
              ∙ put-together over

          cells-long : length (cells_in m'.work) ≡ length (cells_in m.work)
          cells-long = as_many m.work.values new old (as_long written)

          same-marks : marks ≡ marks_of table other
          same-marks =
              marks-here ∙ marks-same input.sheets input.columns table 0 input.rows s.cells
              ∙ rw (s.sheets, s.columns, s.rows)

          table-now : table_in m' index columns rows ≡ with_marks table other
          unfolding with_marks
          table-now =
              let all : length marks * columns ≡ count = ap (λ (k : ℕ). k * columns) many-marks in
              let behind = cells-length m.work room values-room labels-room in
              let read : rows_of columns marks (drop at (cells_in m'.work)) ≡ rows_of columns marks over
              = marked-same columns marks (drop at (cells_in m'.work)) over (omega (arith, all, length-drop at (cells_in m'.work), cells-long, behind, fits))
              (omega (arith, all, other-count)) (rw all (new-cells ∙ sym (take_all count over (omega (arith, other-count))))) in
              let c = columns-equal ∙ s.columns in
              let made = read ∙ ap₂ (λ (c : ℕ) (l : List ℕ). rows_of c l over) c same-marks in
              λ i. record { columns = c i; rows = made i }

          changed : Changed m m' index columns rows table other
          changed = record {
            is = table-now;
            count = other-count;
            below = sym (cells-take at m.work.values new) ∙ ap (cells_of (take at m.work.values)) (below-written written) ∙ cells-take at m.work.values old;
            kept = record { as-many-values = refl; as-many-labels = as_long written; values-past = refl; labels-past = past-any written room (omega (arith, many, fits)) };
            cells-long = cells-long;
          }

      -- an overlay's part composed onto it
      pub one-composed : (overlay : List ℕ) → eqb (length overlay) 0 ≡ false → PartPassed p (part_of overlay table)
          → Changed m (memory_of m.work.values (after_overlay overlay table at rows columns old) m.marks) index columns rows table (overlaid (part_of overlay table) input)
      unfolding after_overlay overlaid
      one-composed overlay some passes =
          let part = part_of overlay table in
          let s = over-stricter p part passes input w in
          let now = ap (composed_labels part 0) old-labels ∙ composed-so part 0 input.cells w.formed (labels-formed p part passes input w) in
          changed (overlaid part input) s (after_overlay overlay table at rows columns old)
          record { room = omega (arith, many (overlaid part input) s, fits); is = rw (some, inside, many (overlaid part input) s, ← now) }

      -- the floor of a year
      pub one-floored : (year : ℕ) → Changed m (memory_of m.work.values (after_floor year at rows columns old) m.marks) index columns rows table (floored_table year input)
      unfolding after_floor floored_table
      one-floored year =
          let s = floor-stricter year w in
          let now = ap (map (floored year)) old-labels ∙ floored-so year input.cells in
          changed (floored_table year input) s (after_floor year at rows columns old)
          record { room = omega (arith, many (floored_table year input) s, fits); is = rw (inside, many (floored_table year input) s, ← now) }
