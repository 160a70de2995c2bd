-- The join in work memory and its meaning. Assumes nothing.
use Prim.Native.Nat.{ℕ, ◌+◌, ◌-◌, ◌≤◌}
use mathlib.Core.Path.{◌≡◌, sym, ap, ap₂, ◌∙◌}
use mathlib.Core.Bool.{true, ◌&&◌, and-eq-true_iff}
use mathlib.Core.List.{List, map}
use native.Mathlib.Omega.{arith}
use lib.Dec.{leb, ltb}
use lib.ListN.{length}
use borrow.Author.Tests.{leb-true, ltb-true}
use Rattle.cells.specs.promises.Work.{Memory, mark_room}
use Rattle.pairs.specs.declared.Side.{Side}
use Rattle.join.specs.promises.Ends.{side_of}
use Rattle.pairs.specs.promises.Pairs.{SidesFit, MarksBelow, width, side_labels, marked_rows}
use Rattle.live_tables.specs.declared.LiveTable.{LiveTable}
use Rattle.live_tables.specs.declared.Stack.{Stack}
use Rattle.memory.specs.promises.Stack.{Ready, last_marks, stack_in, widths_to, live_table, marked_in, Inside, MarksInside}
use Rattle.memory.specs.promises.Steps.{verdict, fits}
use Rattle.plan.specs.Join.{check_join, joined_rows, joined}
use Rattle.plan.specs.Steps.{check, make, too_many}
use Rattle.plan.specs.Supply.{Supply}
use Rattle.plan.specs.Table.{Row, Table, grid}
use Rattle.plan.specs.Verdict.{or_else, refuse_if}
use Rattle.plan.specs.Widths.{enough_tables, columns_exist, made_columns}
use Rattle.plan.specs.declared.Step.TheVariants.{Join}
use Rattle.memory.proofs.LiveTables.{fits-parts, Stands, stands, inside, marks-place, marks-inside, bare-is, grid-is, stack-two, top-width, second-width}
use Rattle.pairs.proofs.Marks.{rights-bare}

-- what a join that fits finds
pub record JoinFits (left right values labels : ℕ) (stack : Stack) (lower upper : LiveTable) (columns : ℕ) : Type 0 where
  pub ready-is : Ready values labels stack
  pub below : Stands stack 1 lower
  pub above : Stands stack 0 upper
  pub in-lower : Inside lower values labels
  pub in-upper : Inside upper values labels
  pub sides : SidesFit values labels (side_of lower left) (side_of upper right)
  pub width_is : columns ≡ lower.columns + (upper.columns - 1)

pub join-parts : (left right : ℕ) (tables : List ℕ) (values labels : ℕ) (stack : Stack) (lower upper : LiveTable) (columns : ℕ) → lower ≡ live_table stack 1 → upper ≡ live_table stack 0
    → fits (Join left right) tables values labels stack ≡ true → columns ≡ made_columns (Join left right) tables (widths_to stack stack.depth) → JoinFits left right values labels stack lower upper columns
unfolding enough_tables columns_exist made_columns
join-parts left right tables values labels stack lower upper columns l u t w =
    let parts = fits-parts (Join left right) tables values labels stack t in
    let two = leb-true 2 stack.depth parts.1 in
    let below = stands stack 1 lower parts.0.depth two l in
    let above = stands stack 0 upper parts.0.depth (omega arith) u in
    let a = inside below parts.0 in
    let b = inside above parts.0 in
    let placed = rw (second-width below, top-width above) at parts.2 in
    let whole = (and-eq-true_iff (ltb left lower.columns && ltb right upper.columns) (leb (lower.columns + (upper.columns - 1)) 8)).0 placed in
    let keys = (and-eq-true_iff (ltb left lower.columns) (ltb right upper.columns)).0 whole.0 in
    record {
      ready-is = parts.0;
      below = below;
      above = above;
      in-lower = a;
      in-upper = b;
      sides = record {
        values-room = a.values-room;
        labels-room = a.labels-room;
        left-rows = a.few-rows;
        right-rows = b.few-rows;
        left_below = a.below;
        right-below = b.below;
        left_key = ltb-true left lower.columns keys.0;
        right_key = ltb-true right upper.columns keys.1;
        few = leb-true (lower.columns + (upper.columns - 1)) 8 whole.1;
      };
      width_is = w ∙ ap₂ (λ (m n : ℕ). m + (n - 1)) (second-width below) (top-width above);
    }

-- the left table's marks lie in a slot below the last one
pub lower-marks : {left right values labels marks : ℕ} {stack : Stack} {lower upper : LiveTable} {columns : ℕ} → JoinFits left right values labels stack lower upper columns → mark_room ≤ marks
    → MarksBelow (side_of lower left) marks × (lower.marks + 256 ≤ last_marks)
lower-marks f room =
    (record { below = (marks-inside f.below f.ready-is room).below; mark-room = room }, omega (arith, marks-place f.below, f.below.low))

-- the tables lie within the labels
pub in-labels : {values labels : ℕ} {left right : Side} → SidesFit values labels left right → SidesFit labels labels left right
in-labels s = record {
  values-room = s.labels-room;
  labels-room = s.labels-room;
  left-rows = s.left-rows;
  right-rows = s.right-rows;
  left_below = s.left_below;
  right-below = s.right-below;
  left_key = s.left_key;
  right_key = s.right_key;
  few = s.few;
}

-- ---- what the meaning makes

module _ (left right : ℕ) (supply : Supply) (m : Memory) (stack : Stack) {lower upper : LiveTable} {columns : ℕ} (room : mark_room ≤ length m.marks)
    (f : JoinFits left right (length m.work.values) (length m.work.labels) stack lower upper columns) where
  abbrev l : Side
  l = side_of lower left

  abbrev r : Side
  r = side_of upper right

  marks-lower : MarksInside lower (length m.marks)
  marks-lower = marks-inside f.below f.ready-is room

  marks-upper : MarksInside upper (length m.marks)
  marks-upper = marks-inside f.above f.ready-is room

  -- the right rows' marks do not count
  rows_are : joined_rows left right (marked_in m lower) (marked_in m upper) ≡ marked_rows m l r
  rows_are = sym (rights-bare left right (marked_in m lower) (marked_in m upper)) ∙ ap (joined_rows left right (marked_in m lower)) (bare-is m f.in-upper marks-upper)

  pub made-is : make (Join left right) supply (stack_in m stack) ≡ record { columns = width l r; rows = marked_rows m l r }
  unfolding make joined
  made-is = ap (make (Join left right) supply) (stack-two m f.above f.below) ∙ ap (λ (rows : List Row). record { columns = width l r; rows = rows }) rows_are

  pub join-verdict : verdict (Join left right) supply (stack_in m stack)
      ≡ or_else (check_join left right (side_labels m.work.labels l) (side_labels m.work.labels r)) (refuse_if (ltb 256 (length (marked_rows m l r))) 34 256 0)
  unfolding check too_many
  join-verdict =
      ap₂ or_else
      (ap (λ (ts : List Table). check (Join left right) (length supply.draws) (map grid ts)) (stack-two m f.above f.below)
      ∙ ap₂ (check_join left right) (grid-is m f.in-lower marks-lower) (grid-is m f.in-upper marks-upper))
      (ap (too_many (Join left right)) made-is)
