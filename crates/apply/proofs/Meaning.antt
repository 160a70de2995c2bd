-- APPLY in work memory and its meaning. Assumes nothing.
use Prim.Native.Nat.{ℕ, ◌+◌, ◌≤◌, ◌<◌}
use mathlib.Core.Path.{◌≡◌, refl, sym, ap, ◌∙◌}
use mathlib.Core.Bool.{Bool, true, false, cond, ◌&&◌, and-eq-true_iff}
use mathlib.Core.List.{List, map}
use lib.Dec.{leb, ltb}
use lib.ListN.{length, get_or}
use borrow.Author.Tests.{leb-true, ltb-true, lt-ltb}
use Rattle.apply.specs.promises.Fits.{apply_fits}
use Rattle.apply.specs.promises.Making.{value_at, label_at}
use Rattle.apply_refusal.specs.promises.Refusals.{operand_formed, apply_says}
use Rattle.cells.specs.promises.Labelled.{column_formed}
use Rattle.cells.specs.promises.Search.{says, unfit}
use Rattle.cells.specs.promises.Work.{Work, Memory, mark_room}
use Rattle.operations.specs.promises.Operations.{operation_fits}
use Rattle.live_tables.specs.declared.LiveTable.{LiveTable}
use Rattle.live_tables.specs.declared.Stack.{Stack}
use Rattle.std.specs.Prelude.{Ok, Err}
use Rattle.memory.specs.declared.StepError.{StepError}
use Rattle.memory.specs.promises.Stack.{Ready, stack_in, widths_to, with_table, live_table, rows_in, marked_in, labels_in, Inside, RowsAt}
use Rattle.memory.specs.promises.Steps.{error_says, verdict, fits, fits_in, DoneWhere}
use Rattle.plan.specs.Apply.{check_apply, applied}
use Rattle.plan.specs.Steps.{check, make, too_many}
use Rattle.plan.specs.Supply.{Supply}
use Rattle.plan.specs.Table.{Row, Table, labels_of, grid, top}
use Rattle.plan.specs.Verdict.{fine}
use Rattle.plan.specs.Widths.{enough_tables, transform_column_exists, columns_exist, made_columns}
use Rattle.plan.specs.declared.Step.{Step}
use Rattle.plan.specs.declared.Step.TheVariants.{Apply}
use Rattle.plan.specs.declared.Transform.{Transform}
use Rattle.apply.proofs.RowMade.{new_of, new-bare, applied-is, cell-made}
use Rattle.extension.proofs.Ends.{extension-done}
use Rattle.extension.proofs.LabelledRows.{Formed, rows-formed}
use Rattle.extension.proofs.Rows.{extended-same}
use Rattle.extension.specs.promises.Extending.{rows_made}
use Rattle.extension.specs.promises.Rows.{made_cell, extended_from}
use Rattle.memory.proofs.Finish.{answered-done, fine-parts, or_nothing}
use Rattle.memory.proofs.FormedTables.{formed-table}
use Rattle.memory.proofs.LiveTables.{fits-parts, Stands, stands, inside, marks-inside, table-within, grid-is, stack_top, top-width}

-- what an APPLY that fits finds
pub record ApplyFits (column : ℕ) (transform : Transform) (values labels : ℕ) (stack : Stack) (table : LiveTable) (width : ℕ) : Type 0 where
  pub is-ready : Ready values labels stack
  pub here : Stands stack 0 table
  pub inside_is : Inside table values labels
  pub below : column < table.columns
  pub operand_below : transform_column_exists transform table.columns ≡ true
  pub width_is : width ≡ table.columns + 1
  pub narrow : table.columns + 1 ≤ 8

module _ (column : ℕ) (transform : Transform) where
  abbrev step : Step
  step = Apply column transform

  pub apply-parts : (tables : List ℕ) (values labels : ℕ) (stack : Stack) (table : LiveTable) (width : ℕ) → table ≡ live_table stack 0 → fits step tables values labels stack ≡ true
      → width ≡ made_columns step tables (widths_to stack stack.depth) → ApplyFits column transform values labels stack table width
  unfolding enough_tables columns_exist made_columns
  apply-parts tables values labels stack table width e t w =
      let widths = widths_to stack stack.depth in
      let parts = fits-parts step tables values labels stack t in
      let here = stands stack 0 table parts.0.depth (leb-true 1 stack.depth parts.1) e in
      let placed = (and-eq-true_iff (columns_exist step tables widths) (leb (made_columns step tables widths) 8)).0 parts.2 in
      let exist = (and-eq-true_iff (ltb column (get_or widths 0 0)) (transform_column_exists transform (get_or widths 0 0))).0 placed.0 in
      record {
        is-ready = parts.0;
        here = here;
        inside_is = inside here parts.0;
        below = ltb-true column _ (rw (top-width here) at exist.0);
        operand_below = rw (top-width here) at exist.1;
        width_is = w ∙ ap (λ (n : ℕ). n + 1) (top-width here);
        narrow = leb-true _ 8 (rw (top-width here) at placed.1);
      }

  -- the operation exists, and the labels in the column are well-formed
  pub operand-formed : (labels : List ℕ) (table : LiveTable) → says fine ≡ apply_says labels table column transform
      → (operation_fits transform ≡ true) × (column_formed column (labels_in labels table) ≡ true)
  operand-formed labels table e =
      let both = (and-eq-true_iff (operation_fits transform) _).0 (fine-parts _ e).0 in
      (both.0, (formed-table labels table column both.1).formed)

  module _ (supply : Supply) (m : Memory) (stack : Stack) {table : LiveTable} {width : ℕ} (room : mark_room ≤ length m.marks) (t : fits_in step supply m stack ≡ true)
      (f : ApplyFits column transform (length m.work.values) (length m.work.labels) stack table width) where
    -- the labels, which do not depend on the marks
    abbrev labels : List ℕ
    labels = m.work.labels

    grids : map labels_of (marked_in m table) ≡ labels_in labels table
    grids = grid-is m f.inside_is (marks-inside f.here f.is-ready room)

    -- all that is asked, as the code tests it
    fits-is : apply_fits column transform supply m stack ≡ operand_formed labels table column transform
    fits-is =
        rw (t, table-within f.inside_is, lt-ltb column table.columns f.below)
        (ap (λ (b : Bool). operation_fits transform && b) (ap (λ (s : List Table). column_formed column (grid (top s))) (stack_top m f.here) ∙ ap (column_formed column) grids))

    verdict-is : verdict step supply (stack_in m stack) ≡ check_apply column transform (labels_in labels table)
    unfolding check too_many
    verdict-is = or_nothing _ ∙ ap (λ (s : List Table). check step (length supply.draws) (map grid s)) (stack_top m f.here) ∙ ap (check_apply column transform) grids

    made-is : make step supply (stack_in m stack) ≡ record { columns = table.columns + 1; rows = extended_from (new_of column transform) 0 (marked_in m table) }
    unfolding make applied
    made-is = ap (make step supply) (stack_top m f.here) ∙ ap (λ (l : List Row). record { columns = table.columns + 1; rows = l }) (applied-is column transform 0 (marked_in m table))

    -- the labels refuse it, or are none
    pub refused-apply : (wrong : StepError) → error_says wrong ≡ apply_says labels table column transform
        → DoneWhere (apply_fits column transform supply m stack) step supply m stack (Err wrong) m
    refused-apply wrong e = answered-done step supply m stack wrong verdict-is (e ∙ ap (λ (b : Bool). cond b (says (check_apply column transform (labels_in labels table))) unfit) (sym fits-is))

    module _ (e : says fine ≡ apply_says labels table column transform) where
      pub made-apply : {after : Work} → RowsAt table.at (rows_made (λ number first row. value_at first row transform) (λ word. label_at word transform) table column m.work) m.work after
          → DoneWhere (apply_fits column transform supply m stack) step supply m stack (Ok (with_table stack table.slot width table.rows)) (record { work = after; marks = m.marks })
      made-apply rows =
          let p = fine-parts _ e in
          let formed = operand-formed labels table e in
          let same = extended-same (Formed table.columns column) (made_cell (λ number first row. value_at first row transform) (λ word. label_at word transform) column) (new_of column transform)
          (cell-made table.columns column transform formed.0 f.operand_below) 0 (rows_in m.work table) (rows-formed m.work table f.inside_is column formed.1) in
          rw f.width_is (extension-done (new_of column transform) (new-bare column transform) step supply m stack f.is-ready f.here f.inside_is room
          (fits-is ∙ p.0) refl (verdict-is ∙ p.1) f.narrow made-is (rw same at rows))

-- arguments that do not fit APPLY
pub misfit-first : (column : ℕ) (transform : Transform) (supply : Supply) (m : Memory) (stack : Stack) → fits_in (Apply column transform) supply m stack ≡ false → apply_fits column transform supply m stack ≡ false
misfit-first column transform supply m stack e = rw e
