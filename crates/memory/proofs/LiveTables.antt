-- The live tables of a stack in work memory, where a step fits. Assumes nothing.
use Prim.Native.Nat.{ℕ, suc, ◌+◌, ◌-◌, ◌*◌, ◌≤◌, ◌<◌}
use mathlib.Core.Path.{◌≡◌, refl, sym, ap, ◌∙◌}
use mathlib.Core.Bool.{true, ◌&&◌, and-eq-true_iff}
use mathlib.Core.List.{List, ◌∷◌, map}
use native.Mathlib.Omega.{arith}
use lib.ListN.{length, get_or, drop, length-drop}
use borrow.Author.Tests.{le-leb, lt-ltb}
use Rattle.cells.specs.promises.Cells.{grid_of, bare_rows, Wide}
use Rattle.cells.specs.promises.Search.{table_within}
use Rattle.cells.specs.promises.Work.{Work, Memory, cells_in, room, mark_room}
use Rattle.live_tables.specs.declared.LiveTable.{LiveTable}
use Rattle.live_tables.specs.declared.Stack.{Stack}
use Rattle.memory.specs.promises.Stack.{ready, Ready, slot, mark_slot, mark_part, table_in, tables_to, stack_in, widths_to, live_at, live_table, rows_in, marked_in, table_of, labels_in, Inside, MarksInside}
use Rattle.memory.specs.promises.Steps.{fits}
use Rattle.plan.specs.Table.{Cell, Table, labels_of, rows_of, Each}
use Rattle.plan.specs.Widths.{enough_tables, placed}
use Rattle.plan.specs.declared.Step.{Step}
use Rattle.cells.proofs.CellLaws.{cells-drop, cells-length, le-within}
use Rattle.cells.proofs.Rows.{marked-length, marked-wide, marked-grid, bare, bare-rows}
use Rattle.memory.proofs.Stacks.{is-ready, fits-slot, marks-count}

-- the parts of what fits
pub fits-parts : (step : Step) (tables : List ℕ) (values labels : ℕ) (stack : Stack) → fits step tables values labels stack ≡ true
    → Ready values labels stack × (enough_tables step stack.depth ≡ true) × (placed step tables (widths_to stack stack.depth) ≡ true)
fits-parts step tables values labels stack e =
    let a = (and-eq-true_iff (ready values labels stack && enough_tables step stack.depth) (placed step tables (widths_to stack stack.depth))).0 e in
    let b = (and-eq-true_iff (ready values labels stack) (enough_tables step stack.depth)).0 a.0 in
    (is-ready values labels stack b.0, b.1, a.1)

-- a table that is live, so many below the top
pub record Stands (stack : Stack) (below : ℕ) (table : LiveTable) : Type 0 where
  pub depth_is : stack.depth ≡ table.slot + suc below
  pub low : table.slot < 3
  pub is : table ≡ live_at stack table.slot

pub stands : (stack : Stack) (below : ℕ) (table : LiveTable) → stack.depth ≤ 3 → below < stack.depth → table ≡ live_table stack below → Stands stack below table
unfolding live_table
stands stack below table d h e =
    let index = stack.depth - 1 - below in
    let whole : table ≡ live_at stack index = e ∙ rw (le-leb stack.depth 3 d, lt-ltb below stack.depth h) in
    let there : table.slot ≡ index = ap (λ (t : LiveTable). t.slot) whole in
    record { depth_is = omega arith; low = omega arith; is = whole ∙ ap (live_at stack) (sym there) }

module _ {stack : Stack} {below : ℕ} {table : LiveTable} (s : Stands stack below table) where
  pub at-is : table.at ≡ slot table.slot
  at-is = ap (λ (t : LiveTable). t.at) s.is

  pub rows_are : table.rows ≡ get_or stack.rows table.slot 0
  rows_are = ap (λ (t : LiveTable). t.rows) s.is

  pub columns-are : table.columns ≡ get_or stack.columns table.slot 0
  columns-are = ap (λ (t : LiveTable). t.columns) s.is

  -- it is the table of its slot
  pub table-there : (work : Memory) → table_in work table.slot (get_or stack.columns table.slot 0) (get_or stack.rows table.slot 0) ≡ table_of work table
  table-there work = sym (ap (table_of work) s.is)

  pub marks-place : table.marks ≡ mark_slot table.slot
  marks-place = ap (λ (t : LiveTable). t.marks) s.is

  pub marks-inside : {values labels marks : ℕ} → Ready values labels stack → mark_room ≤ marks → MarksInside table marks
  marks-inside r h = record { below = omega (arith, marks-place, s.low, rows_are, r.rows table.slot s.low); mark-room = h }

  pub inside : {values labels : ℕ} → Ready values labels stack → Inside table values labels
  inside r =
      let few : table.rows ≤ 256 = omega (arith, rows_are, r.rows table.slot s.low) in
      let narrow : table.columns ≤ 8 = omega (arith, columns-are, r.columns table.slot s.low) in
      record {
        few-rows = few;
        few-columns = narrow;
        below = omega (arith, at-is, s.low, fits-slot table.rows table.columns few narrow);
        values-room = r.values-room;
        labels-room = r.labels-room;
      }

module _ {table : LiveTable} {values labels : ℕ} (i : Inside table values labels) where
  pub table-within : table_within table.at table.rows table.columns labels ≡ true
  table-within = rw (
    le-leb table.rows 256 i.few-rows,
    le-leb table.columns 8 i.few-columns,
    le-within table.at (table.rows * table.columns) labels (omega (arith, i.below, i.labels-room)),
  )

module _ (work : Work) {table : LiveTable} (i : Inside table (length work.values) (length work.labels)) where
  pub cells-room : room ≤ length (cells_in work)
  cells-room = cells-length work room i.values-room i.labels-room

  pub rows-room : table.rows * table.columns ≤ length (drop table.at (cells_in work))
  rows-room = simp length-drop (omega (arith, i.below, cells-room))

-- its rows with their marks
module _ (memory : Memory) {table : LiveTable} (i : Inside table (length memory.work.values) (length memory.work.labels)) (k : MarksInside table (length memory.marks)) where
  abbrev marks : List ℕ
  marks = mark_part memory.marks table.marks table.rows

  pub marks-are-rows : length marks ≡ table.rows
  marks-are-rows = marks-count memory.marks table.marks table.rows (omega (arith, k.below, k.mark-room))

  pub marked-count : length (marked_in memory table) ≡ table.rows
  marked-count = marked-length table.columns marks (drop table.at (cells_in memory.work)) ∙ marks-are-rows

  pub marked-are-wide : Each (Wide table.columns) (marked_in memory table)
  marked-are-wide = marked-wide table.columns marks (drop table.at (cells_in memory.work)) (rw marks-are-rows (rows-room memory.work i))

  -- they have the cells of the rows without
  pub bare-is : map bare (marked_in memory table) ≡ rows_in memory.work table
  bare-is = bare-rows table.columns marks (drop table.at (cells_in memory.work)) ∙ ap (λ (n : ℕ). bare_rows table.columns n (drop table.at (cells_in memory.work))) marks-are-rows

  -- the table's labels are those of the slice of labels
  pub grid-is : map labels_of (marked_in memory table) ≡ labels_in memory.work.labels table
  grid-is =
      let vs = memory.work.values in
      let ls = memory.work.labels in
      ap (λ (m : List Cell). map labels_of (rows_of table.columns marks m)) (sym (cells-drop table.at vs ls))
      ∙ marked-grid table.columns marks (drop table.at vs) (drop table.at ls) (rw marks-are-rows (simp length-drop (omega (arith, i.below, i.values-room))))
      ∙ ap (λ (n : ℕ). grid_of table.columns n (drop table.at ls)) marks-are-rows

-- ---- the tables on top of the stack

module _ (work : Memory) {stack : Stack} {top : LiveTable} (s : Stands stack 0 top) where
  pub stack_top : stack_in work stack ≡ table_of work top ∷ tables_to work stack top.slot
  stack_top =
      let e : stack.depth ≡ suc top.slot = omega (arith, s.depth_is) in
      ap (tables_to work stack) e ∙ ap (λ (t : Table). t ∷ tables_to work stack top.slot) (table-there s work)

  pub stack-two : {second : LiveTable} → Stands stack 1 second → stack_in work stack ≡ table_of work top ∷ table_of work second ∷ tables_to work stack second.slot
  stack-two {second} u =
      let e : top.slot ≡ suc second.slot = omega (arith, s.depth_is, u.depth_is) in
      stack_top ∙ ap (λ (l : List Table). table_of work top ∷ l)
      (ap (tables_to work stack) e ∙ ap (λ (t : Table). t ∷ tables_to work stack second.slot) (table-there u work))

-- the widths of the tables on top
widths-at : (stack : Stack) (n : ℕ) → get_or (widths_to stack (suc n)) 0 0 ≡ get_or stack.columns n 0
widths-at stack n = refl

pub top-width : {stack : Stack} {top : LiveTable} → Stands stack 0 top → get_or (widths_to stack stack.depth) 0 0 ≡ top.columns
top-width {stack} {top} s =
    let e : stack.depth ≡ suc top.slot = omega (arith, s.depth_is) in
    ap (λ (n : ℕ). get_or (widths_to stack n) 0 0) e ∙ sym (columns-are s)

pub second-width : {stack : Stack} {second : LiveTable} → Stands stack 1 second → get_or (widths_to stack stack.depth) 1 0 ≡ second.columns
second-width {stack} {second} s =
    let e : stack.depth ≡ suc (suc second.slot) = omega (arith, s.depth_is) in
    ap (λ (n : ℕ). get_or (widths_to stack n) 1 0) e ∙ sym (columns-are s)
