-- FILTER in work memory and its meaning. Assumes nothing.
use Prim.Native.Nat.{ℕ, ◌≤◌, ◌<◌}
use mathlib.Core.Path.{◌≡◌, sym, ap, ◌∙◌}
use mathlib.Core.Bool.{true, and-eq-true_iff}
use mathlib.Core.List.{List, map}
use native.Mathlib.Nat.{zero-add}
use native.Mathlib.Omega.{arith}
use lib.Dec.{ltb}
use lib.ListN.{length, get_or, drop}
use borrow.Author.Tests.{leb-true, ltb-true}
use Rattle.plan.specs.Masks.{in_mask}
use Rattle.std.specs.Prelude.{Option, Some, None, Result, Ok, Err}
use Rattle.cells.specs.declared.At.{At}
use Rattle.cells.specs.declared.DoesNotFit.{DoesNotFit}
use Rattle.cells.specs.promises.Search.{says, place_says, not_clear_at}
use Rattle.cells.specs.promises.Work.{Memory, mark_room}
use Rattle.live_tables.specs.declared.LiveTable.{LiveTable}
use Rattle.memory.specs.declared.Refusal.TheVariants.{NotClear}
use Rattle.live_tables.specs.declared.Stack.{Stack}
use Rattle.memory.specs.declared.StepError.TheVariants.{Refused}
use Rattle.memory.specs.promises.Stack.{Ready, stack_in, widths_to, with_table, live_table, marked_in, labels_in, Inside, MarksInside}
use Rattle.memory.specs.promises.Steps.{verdict, fits, fits_in, Done}
use Rattle.plan.specs.Filter.{read_by, check_filter, passes, passing, filtered}
use Rattle.plan.specs.Steps.{check, make, too_many}
use Rattle.plan.specs.Supply.{Supply}
use Rattle.plan.specs.Table.{Table, grid}
use Rattle.plan.specs.Verdict.{refused, not_clear}
use Rattle.plan.specs.Widths.{enough_tables, operand_column_exists, columns_exist, made_columns}
use Rattle.plan.specs.declared.Comparison.{Comparison}
use Rattle.plan.specs.declared.Operand.{Operand}
use Rattle.plan.specs.declared.Step.{Step}
use Rattle.plan.specs.declared.Step.TheVariants.{Filter}
use Rattle.filter.specs.promises.Filtering.{Filtered}
use Rattle.cells.proofs.Wanted.{search-same}
use Rattle.memory.proofs.Finish.{unchanged-done, made-done, rows_written, marks-put, says_is, never-unfit, or_nothing}
use Rattle.memory.proofs.LiveTables.{fits-parts, Stands, stands, inside, at-is, marks-place, marks-inside, marked-count, marked-are-wide, table-within, grid-is, stack_top, top-width}
use Rattle.filter.proofs.RowLaws.{passing-wide, passing-fewer}

-- what a filter that fits finds
pub record FilterFits (column : ℕ) (operand : Operand) (values labels : ℕ) (stack : Stack) (top : LiveTable) (width : ℕ) : Type 0 where
  pub is-ready : Ready values labels stack
  pub here : Stands stack 0 top
  pub inside_is : Inside top values labels
  pub below : column < top.columns
  pub operand_below : operand_column_exists operand top.columns ≡ true
  pub width_is : width ≡ top.columns

module _ (column : ℕ) (comparison : Comparison) (operand : Operand) where
  abbrev step : Step
  step = Filter column comparison operand

  pub filter_parts : (tables : List ℕ) (values labels : ℕ) (stack : Stack) (top : LiveTable) (width : ℕ) → top ≡ live_table stack 0 → fits step tables values labels stack ≡ true
      → width ≡ made_columns step tables (widths_to stack stack.depth) → FilterFits column operand values labels stack top width
  unfolding enough_tables columns_exist made_columns
  filter_parts tables values labels stack top width e t w =
      let parts = fits-parts step tables values labels stack t in
      let here = stands stack 0 top parts.0.depth (leb-true 1 stack.depth parts.1) e in
      let exist = ((and-eq-true_iff (columns_exist step tables (widths_to stack stack.depth)) _).0 parts.2).0 in
      let two = (and-eq-true_iff (ltb column (get_or (widths_to stack stack.depth) 0 0)) (operand_column_exists operand (get_or (widths_to stack stack.depth) 0 0))).0 exist in
      record {
        is-ready = parts.0;
        here = here;
        inside_is = inside here parts.0;
        below = ltb-true column _ (rw (top-width here) at two.0);
        operand_below = rw (top-width here) at two.1;
        width_is = w ∙ top-width here;
      }

  module _ (supply : Supply) (m : Memory) (stack : Stack) {top : LiveTable} {width : ℕ} (room : mark_room ≤ length m.marks) (t : fits_in step supply m stack ≡ true)
      (f : FilterFits column operand (length m.work.values) (length m.work.labels) stack top width) where
    abbrev labels : List ℕ
    labels = m.work.labels

    marked : MarksInside top (length m.marks)
    marked = marks-inside f.here f.is-ready room

    filter-verdict : verdict step supply (stack_in m stack) ≡ not_clear (read_by column operand) 31 0 (labels_in labels top)
    unfolding check check_filter too_many
    filter-verdict = or_nothing _ ∙ ap (λ (s : List Table). check step (length supply.draws) (map grid s)) (stack_top m f.here) ∙ ap (not_clear (read_by column operand) 31 0) (grid-is m f.inside_is marked)

    made-is : make step supply (stack_in m stack) ≡ record { columns = top.columns; rows = passing (passes column comparison operand) (marked_in m top) }
    unfolding make filtered
    made-is = ap (make step supply) (stack_top m f.here)

    module _ (mask : ℕ) (bits : (c : ℕ) → c < 8 → in_mask mask c ≡ read_by column operand c) where
      searched : (found : Result (Option At) DoesNotFit) → place_says 31 0 found ≡ not_clear_at 31 0 labels top.at top.rows top.columns mask
          → place_says 31 0 found ≡ says (verdict step supply (stack_in m stack))
      searched found e =
          e ∙ rw (table-within f.inside_is)
          (ap says (search-same (in_mask mask) (read_by column operand) bits 31 top.columns top.rows 0 (drop top.at labels) f.inside_is.few-columns ∙ sym filter-verdict))

      pub filter-refused : (at : At) → place_says 31 0 (Ok (Some at)) ≡ not_clear_at 31 0 labels top.at top.rows top.columns mask
          → Done step supply m stack (Err (Refused (NotClear at))) m
      filter-refused at e =
          unchanged-done step supply m stack t (NotClear at) (sym (says_is (searched (Ok (Some at)) e)) ∙ ap (λ (n : ℕ). refused 31 n at.column) (zero-add at.row))

      pub filter-fits-still : {wrong : DoesNotFit} → place_says 31 0 (Err wrong) ≡ not_clear_at 31 0 labels top.at top.rows top.columns mask → ⊥
      filter-fits-still {wrong} e = never-unfit (searched (Err wrong) e)

      pub filter-made : (count : ℕ) {after : Memory} → place_says 31 0 (Ok None) ≡ not_clear_at 31 0 labels top.at top.rows top.columns mask
          → Filtered top (passes column comparison operand) m count after
          → Done step supply m stack (Ok (with_table stack top.slot width count)) after
      filter-made count {after} e g =
          let rows = passing (passes column comparison operand) (marked_in m top) in
          let i = f.inside_is in
          let few : count ≤ 256 = omega (arith, g.counted, passing-fewer (passes column comparison operand) (marked_in m top), marked-count m i marked, i.few-rows) in
          rw f.width_is (made-done step supply m stack t top.slot top.columns count rows after f.is-ready room
          (sym (says_is (searched (Ok None) e))) f.here.low f.here.depth_is made-is i.few-columns few g.counted
          (passing-wide top.columns (passes column comparison operand) (marked_in m top) (marked-are-wide m i marked))
          (at-is f.here) (rows_written rows g.cells g.kept.work) (marks-place f.here) (marks-put rows g.marks g.kept.marks))
