-- KEEP in work memory and its meaning. Assumes nothing.
use Prim.Native.Nat.{ℕ, zero, suc, ◌≤◌}
use mathlib.Core.Path.{◌≡◌, refl, sym, ap, ◌∙◌}
use mathlib.Core.Bool.{true, cond}
use mathlib.Core.List.{List, [], ◌∷◌, ◌++◌, map}
use native.Mathlib.Omega.{arith}
use lib.ListN.{length, drop, length-map}
use borrow.Author.Tests.{leb-true}
use Rattle.cells.specs.promises.Work.{Work, Memory, cells_in, mark_room}
use Rattle.live_tables.specs.declared.LiveTable.{LiveTable}
use Rattle.live_tables.specs.declared.Stack.{Stack}
use Rattle.std.specs.Prelude.{Ok}
use Rattle.memory.specs.promises.Stack.{Ready, mark_part, stack_in, widths_to, with_table, live_table, rows_in, marked_in, Inside}
use Rattle.memory.specs.promises.Steps.{fits, fits_in, Done}
use Rattle.plan.specs.Keep.{kept_count, kept_cells, kept_row, kept}
use Rattle.plan.specs.Masks.{in_mask}
use Rattle.plan.specs.Steps.{check, make, too_many}
use Rattle.plan.specs.Supply.{Supply}
use Rattle.plan.specs.Table.{Cell, Row, cell_at, flat}
use Rattle.plan.specs.Widths.{enough_tables, made_columns}
use Rattle.plan.specs.declared.Step.TheVariants.{Keep}
use Rattle.keep.specs.promises.Keeping.{RowsKept}
use Rattle.cells.proofs.Rows.{bare, flat-same, marks-are}
use Rattle.memory.proofs.Finish.{made-done, rows-like, rows_written, marks_stay}
use Rattle.memory.proofs.LiveTables.{fits-parts, Stands, stands, inside, at-is, marks-place, marks-inside, marked-count, bare-is, stack_top, top-width}
use Rattle.keep.proofs.KeepLoop.{count-below, kept-wide}

-- what a keep that fits finds
pub record KeepFits (mask values labels : ℕ) (stack : Stack) (top : LiveTable) (width : ℕ) : Type 0 where
  pub is-ready : Ready values labels stack
  pub here : Stands stack 0 top
  pub inside_is : Inside top values labels
  pub width_is : width ≡ kept_count mask top.columns

pub keep-parts : (mask : ℕ) (tables : List ℕ) (values labels : ℕ) (stack : Stack) (top : LiveTable) (width : ℕ) → top ≡ live_table stack 0 → fits (Keep mask) tables values labels stack ≡ true
    → width ≡ made_columns (Keep mask) tables (widths_to stack stack.depth) → KeepFits mask values labels stack top width
unfolding enough_tables made_columns
keep-parts mask tables values labels stack top width e t w =
    let parts = fits-parts (Keep mask) tables values labels stack t in
    let here = stands stack 0 top parts.0.depth (leb-true 1 stack.depth parts.1) e in
    record { is-ready = parts.0; here = here; inside_is = inside here parts.0; width_is = w ∙ ap (kept_count mask) (top-width here) }

-- the cells kept do not depend on a row's mark
kept-bare : (mask columns : ℕ) (row : Row) → kept_cells mask columns row ≡ kept_cells mask columns (bare row)
kept-bare mask zero row = refl
kept-bare mask (suc column) row = ap (λ (l : List Cell). l ++ cond (in_mask mask column) (cell_at column row ∷ []) []) (kept-bare mask column row)

kept-marks : (mask columns : ℕ) (rows : List Row) → map (λ row. row.mark) (map (kept_row mask columns) rows) ≡ map (λ row. row.mark) rows
kept-marks mask columns [] = refl
kept-marks mask columns (row ∷ rows) = ap (λ (l : List ℕ). row.mark ∷ l) (kept-marks mask columns rows)

pub keep-made : (mask : ℕ) (supply : Supply) (m : Memory) (stack : Stack) {top : LiveTable} {width : ℕ} → mark_room ≤ length m.marks → fits_in (Keep mask) supply m stack ≡ true
    → KeepFits mask (length m.work.values) (length m.work.labels) stack top width → {after : Work} → RowsKept mask top m.work after
    → Done (Keep mask) supply m stack (Ok (with_table stack top.slot width top.rows)) (record { work = after; marks = m.marks })
unfolding make kept check too_many
keep-made mask supply m stack {top} {width} room t f {after} k =
    let columns = top.columns in
    let rows = map (kept_row mask columns) (marked_in m top) in
    let bares = map (kept_row mask columns) (rows_in m.work top) in
    let marked = marks-inside f.here f.is-ready room in
    let made : make (Keep mask) supply (stack_in m stack) ≡ record { columns = kept_count mask columns; rows = rows } = ap (make (Keep mask) supply) (stack_top m f.here) in
    let counted : top.rows ≡ length rows = sym (length-map (marked_in m top) (kept_row mask columns) ∙ marked-count m f.inside_is marked) in
    let cells : flat rows ≡ flat bares
    = flat-same (kept_row mask columns) (kept-bare mask columns) (marked_in m top) ∙ ap (λ (l : List Row). flat (map (kept_row mask columns) l)) (bare-is m f.inside_is marked) in
    let marks : mark_part m.marks top.marks (length rows) ≡ map (λ row. row.mark) rows
    = ap (mark_part m.marks top.marks) (sym counted) ∙ sym (kept-marks mask columns (marked_in m top) ∙ marks-are columns _ (drop top.at (cells_in m.work))) in
    rw f.width_is (made-done (Keep mask) supply m stack t top.slot (kept_count mask columns) top.rows rows (record { work = after; marks = m.marks }) f.is-ready room
    refl f.here.low f.here.depth_is made (omega (arith, count-below mask columns, f.inside_is.few-columns)) f.inside_is.few-rows
    counted (kept-wide mask columns (marked_in m top)) (at-is f.here) (rows-like rows bares cells (rows_written bares k.written k.kept)) (marks-place f.here) (marks_stay m.marks top.marks rows marks))
