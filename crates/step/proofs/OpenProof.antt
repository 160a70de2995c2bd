-- A step's promise leaves open nothing but free elements. Assumes nothing.
use Prim.Native.Nat.{ℕ, zero, suc, ◌+◌, ◌-◌, ◌*◌, ◌≤◌, ◌<◌}
use mathlib.Core.Path.{◌≡◌, refl, sym, ap, ◌∙◌}
use mathlib.Core.Bool.{Bool, true, false, ◌||◌, true≢false, and-eq-true_iff}
use mathlib.Core.List.{List, [], map}
use native.Mathlib.Omega.{arith}
use lib.Dec.{leb, ltb}
use lib.IntN.{pos}
use lib.ListN.{length, get_or, take, drop}
use lib.Seq.{get_or-take, get_or-drop}
use borrow.Author.Tests.{leb-true, ltb-true, ltb-false}
use Rattle.cells.specs.promises.Work.{Work, Memory, cells_in, room, mark_room, Kept}
use Rattle.live_tables.specs.declared.Stack.{Stack}
use Rattle.memory.specs.promises.Steps.{stack_after}
use Rattle.memory.specs.promises.Stack.{Ready, slot, mark_slot, mark_part, tables_to}
use Rattle.plan.specs.Table.{Cell, Table, blank, rows_of, flat}
use Rattle.step.specs.promises.Free.{in_table, in_tables, free, mark_in_table, mark_in_tables, free_mark, OnlyFreeOpen}
use Rattle.cells.proofs.CellLaws.{cells-get}
use Rattle.cells.proofs.RowReads.{flat-marked}
use Rattle.cells.proofs.Rows.{marks-are}
use Rattle.memory.proofs.Stacks.{is-ready, fits-slot, marks-count}

abbrev Same : Work → Work → ℕ → Type 0
Same one other place = (get_or one.values place (pos 0) ≡ get_or other.values place (pos 0)) × (get_or one.labels place 0 ≡ get_or other.labels place 0)

-- past a place from which on two lists are the same
past : {A : Type 0} (one other : List A) (n place : ℕ) (d : A) → n ≤ place → drop n one ≡ drop n other → get_or one place d ≡ get_or other place d
past one other n place d h e =
    let s : n + (place - n) ≡ place = omega arith in
    rw (← s) (sym (get_or-drop n one (place - n) d) ∙ ap (λ (l : List _). get_or l (place - n) d) e ∙ get_or-drop n other (place - n) d)

past_room : {before one other : Work} (place : ℕ) → room ≤ place → Kept before one → Kept before other → Same one other place
past_room {before} {one} {other} place h k m =
    (past one.values other.values room place (pos 0) h (k.values-past ∙ sym m.values-past), past one.labels other.labels room place 0 h (k.labels-past ∙ sym m.labels-past))

-- two memories that a stack fits
pub record Both (stack : Stack) (one other : Memory) : Type 0 where
  pub first : Ready (length one.work.values) (length one.work.labels) stack
  pub second : Ready (length other.work.values) (length other.work.labels) stack
  pub first_marks : mark_room ≤ length one.marks
  pub second-marks : mark_room ≤ length other.marks

module _ (stack : Stack) (one other : Memory) (b : Both stack one other) where
  -- cells that are the same have the same value and the same label
  cell_same : (place : ℕ) → place < room → get_or (cells_in one.work) place blank ≡ get_or (cells_in other.work) place blank → Same one.work other.work place
  cell_same place h e =
      let r = b.first in
      let s = b.second in
      let both = sym (cells-get one.work place (pos 0) (omega (arith, r.values-room)) (omega (arith, r.labels-room))) ∙ e
      ∙ cells-get other.work place (pos 0) (omega (arith, s.values-room)) (omega (arith, s.labels-room)) in
      (ap (λ (cell : Cell). cell.value) both, ap (λ (cell : Cell). cell.label) both)

  -- the rows of one table, and those of all tables, are the same
  abbrev SameRows : ℕ → Type 0
  SameRows index =
      rows_of (get_or stack.columns index 0) (mark_part one.marks (mark_slot index) (get_or stack.rows index 0)) (drop (slot index) (cells_in one.work))
      ≡ rows_of (get_or stack.columns index 0) (mark_part other.marks (mark_slot index) (get_or stack.rows index 0)) (drop (slot index) (cells_in other.work))

  abbrev SameTables : ℕ → Type 0
  SameTables n = tables_to one stack n ≡ tables_to other stack n

  rows_same : (n : ℕ) → SameTables (suc n) → SameRows n
  rows_same n e = ap (λ (l : List Table). (get_or l 0 (record { columns = 0; rows = [] })).rows) e

  counts : (index : ℕ) → index < 3 → (memory : Memory) → mark_room ≤ length memory.marks → length (mark_part memory.marks (mark_slot index) (get_or stack.rows index 0)) ≡ get_or stack.rows index 0
  counts index low memory room = marks-count memory.marks (mark_slot index) (get_or stack.rows index 0) (omega (arith, b.first.rows index low))

  -- the cells of one table
  in-table : (index place : ℕ) → index < 3 → in_table stack index place ≡ true → SameRows index → Same one.work other.work place
  in-table index place low t e =
      let columns = get_or stack.columns index 0 in
      let rows = get_or stack.rows index 0 in
      let two = (and-eq-true_iff (leb (slot index) place) (ltb place (slot index + rows * columns))).0 t in
      let from : slot index ≤ place = leb-true (slot index) place two.0 in
      let upto : place < slot index + rows * columns = ltb-true place _ two.1 in
      let few = fits-slot rows columns (b.first.rows index low) (b.first.columns index low) in
      let at = place - slot index in
      let there : slot index + at ≡ place = omega arith in
      let cells : (memory : Memory) → mark_room ≤ length memory.marks
      → flat (rows_of columns (mark_part memory.marks (mark_slot index) rows) (drop (slot index) (cells_in memory.work))) ≡ take (rows * columns) (drop (slot index) (cells_in memory.work))
      = λ memory room. flat-marked columns (mark_part memory.marks (mark_slot index) rows) (drop (slot index) (cells_in memory.work)) ∙ ap (λ (n : ℕ). take (n * columns) (drop (slot index) (cells_in memory.work))) (counts index low memory room) in
      let parts : take (rows * columns) (drop (slot index) (cells_in one.work)) ≡ take (rows * columns) (drop (slot index) (cells_in other.work))
      = sym (cells one b.first_marks) ∙ ap flat e ∙ cells other b.second-marks in
      let reads : (cells : List Cell) → get_or (take (rows * columns) (drop (slot index) cells)) at blank ≡ get_or cells place blank
      = λ cells. get_or-take (rows * columns) (drop (slot index) cells) at blank (omega arith) ∙ get_or-drop (slot index) cells at blank ∙ ap (λ (n : ℕ). get_or cells n blank) there in
      cell_same place (omega arith) (sym (reads (cells_in one.work)) ∙ ap (λ (l : List Cell). get_or l at blank) parts ∙ reads (cells_in other.work))

  -- and its marks
  mark-in-table : (index place : ℕ) → index < 3 → mark_in_table stack index place ≡ true → SameRows index → get_or one.marks place 0 ≡ get_or other.marks place 0
  mark-in-table index place low t e =
      let rows = get_or stack.rows index 0 in
      let two = (and-eq-true_iff (leb (mark_slot index) place) (ltb place (mark_slot index + rows))).0 t in
      let from : mark_slot index ≤ place = leb-true (mark_slot index) place two.0 in
      let upto : place < mark_slot index + rows = ltb-true place _ two.1 in
      let at = place - mark_slot index in
      let there : mark_slot index + at ≡ place = omega arith in
      let marks : mark_part one.marks (mark_slot index) rows ≡ mark_part other.marks (mark_slot index) rows
      = sym (marks-are (get_or stack.columns index 0) (mark_part one.marks (mark_slot index) rows) (drop (slot index) (cells_in one.work))) ∙ ap (map (λ row. row.mark)) e
      ∙ marks-are (get_or stack.columns index 0) (mark_part other.marks (mark_slot index) rows) (drop (slot index) (cells_in other.work)) in
      let reads : (l : List ℕ) → get_or (mark_part l (mark_slot index) rows) at 0 ≡ get_or l place 0
      = λ l. get_or-take rows (drop (mark_slot index) l) at 0 (omega arith) ∙ get_or-drop (mark_slot index) l at 0 ∙ ap (λ (n : ℕ). get_or l n 0) there in
      sym (reads one.marks) ∙ ap (λ (l : List ℕ). get_or l at 0) marks ∙ reads other.marks

  -- what holds of each table's elements holds of those of all tables
  in-tables : (test : Stack → ℕ → ℕ → Bool) (all : Stack → ℕ → ℕ → Bool) → ((place : ℕ) → all stack 0 place ≡ false)
      → ((n place : ℕ) → all stack (suc n) place ≡ (test stack n place || all stack n place))
      → (P : Type 0) (place : ℕ) → ((index : ℕ) → index < 3 → test stack index place ≡ true → SameRows index → P)
      → (n : ℕ) → n ≤ 3 → all stack n place ≡ true → SameTables n → P
  in-tables test all none more P place each zero h t e = absurd (true≢false (sym t ∙ none place))
  in-tables test all none more P place each (suc n) h t e =
      either (test stack n place) refl (λ f. in-tables test all none more P place each n (omega arith) f (ap (λ (l : List Table). drop 1 l) e))
    where
      either : (b : Bool) → test stack n place ≡ b → (all stack n place ≡ true → P) → P
      either true b lower = each n (omega arith) b (rows_same n e)
      either false b lower = lower (sym (more n place ∙ ap (λ (t : Bool). t || all stack n place) b) ∙ t)

pub only-free-open : OnlyFreeOpen
only-free-open fit step supply before stack done done' after after' room-is d e t v =
    let m = d.made t v in
    let n = e.made t v in
    let same : stack_after stack done ≡ stack_after stack done' = m.stack_is ∙ sym n.stack_is in
    let both : Both (stack_after stack done) after after' = record {
      first = is-ready _ _ _ m.still;
      second = is-ready _ _ _ (rw (sym same) at n.still);
      first_marks = omega (arith, d.kept.marks.as_many);
      second-marks = omega (arith, e.kept.marks.as_many);
    } in
    let tables-same : tables_to after (stack_after stack done) (stack_after stack done).depth ≡ tables_to after' (stack_after stack done) (stack_after stack done).depth
    = m.tables-are ∙ sym n.tables-are ∙ ap (λ (other : Stack). tables_to after' other other.depth) (sym same) in (
      same,
      d.kept.work.as-many-values ∙ sym e.kept.work.as-many-values,
      d.kept.work.as-many-labels ∙ sym e.kept.work.as-many-labels,
      d.kept.marks.as_many ∙ sym e.kept.marks.as_many,
      λ place f. either place f (ltb place room) refl both tables-same,
      λ place f. mark-either place f (ltb place mark_room) refl both tables-same,
    )
  where
    either : (place : ℕ) → free (stack_after stack done) place ≡ false → (b : Bool) → ltb place room ≡ b → Both (stack_after stack done) after after'
        → tables_to after (stack_after stack done) (stack_after stack done).depth ≡ tables_to after' (stack_after stack done) (stack_after stack done).depth → Same after.work after'.work place
    either place f false b two same = past_room place (ltb-false place room b) d.kept.work e.kept.work
    either place f true b two same = inner (in_tables (stack_after stack done) (stack_after stack done).depth place) refl
      where
        inner : (x : Bool) → in_tables (stack_after stack done) (stack_after stack done).depth place ≡ x → Same after.work after'.work place
        inner true x = in-tables (stack_after stack done) after after' two in_table in_tables (λ _. refl) (λ _ _. refl) _ place (λ index low i r. in-table (stack_after stack done) after after' two index place low i r) (stack_after stack done).depth two.first.depth x same
        inner false x = absurd (true≢false (rw (b, x) at f))

    mark-either : (place : ℕ) → free_mark (stack_after stack done) place ≡ false → (b : Bool) → ltb place mark_room ≡ b → Both (stack_after stack done) after after'
        → tables_to after (stack_after stack done) (stack_after stack done).depth ≡ tables_to after' (stack_after stack done) (stack_after stack done).depth → get_or after.marks place 0 ≡ get_or after'.marks place 0
    mark-either place f false b two same = past after.marks after'.marks mark_room place 0 (ltb-false place mark_room b) (d.kept.marks.past ∙ sym e.kept.marks.past)
    mark-either place f true b two same = inner (mark_in_tables (stack_after stack done) (stack_after stack done).depth place) refl
      where
        inner : (x : Bool) → mark_in_tables (stack_after stack done) (stack_after stack done).depth place ≡ x → get_or after.marks place 0 ≡ get_or after'.marks place 0
        inner true x = in-tables (stack_after stack done) after after' two mark_in_table mark_in_tables (λ _. refl) (λ _ _. refl) _ place (λ index low i r. mark-in-table (stack_after stack done) after after' two index place low i r) (stack_after stack done).depth two.first.depth x same
        inner false x = absurd (true≢false (rw (b, x) at f))
