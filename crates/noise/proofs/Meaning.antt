-- NOISE in work memory and its meaning. Assumes nothing.
use Prim.Native.Nat.{ℕ, ◌+◌, ◌≤◌, ◌<◌}
use mathlib.Core.Path.{◌≡◌, refl, sym, ap, ◌∙◌}
use mathlib.Core.Bool.{Bool, true, false, cond, and-eq-true_iff}
use mathlib.Core.List.{List, map}
use lib.Dec.{leb}
use lib.IntN.{pos}
use lib.ListN.{length, get_or}
use borrow.Author.Tests.{leb-true, ltb-true, lt-ltb}
use Rattle.cells.specs.promises.Labelled.{column_formed, column_formed_at}
use Rattle.cells.specs.promises.Search.{says, unfit}
use Rattle.cells.specs.promises.Work.{Work, Memory, mark_room}
use Rattle.live_tables.specs.declared.LiveTable.{LiveTable}
use Rattle.live_tables.specs.declared.Stack.{Stack}
use Rattle.std.specs.Prelude.{Ok, Err}
use Rattle.memory.specs.declared.StepError.{StepError}
use Rattle.memory.specs.promises.Stack.{Ready, stack_in, widths_to, with_table, live_table, rows_in, marked_in, labels_in, Inside, MarksInside, RowsAt}
use Rattle.memory.specs.promises.Steps.{error_says, verdict, fits, fits_in, DoneWhere}
use Rattle.noise.specs.promises.Fits.{noise_fits}
use Rattle.noise.specs.promises.Making.{label_at}
use Rattle.noise_value.specs.Noise.{noisy}
use Rattle.noise_refusal.specs.promises.Refusals.{noise_says}
use Rattle.plan.specs.Noise.{check_noise, with_noise}
use Rattle.plan.specs.Steps.{check, make, too_many}
use Rattle.plan.specs.Supply.{Supply}
use Rattle.plan.specs.Table.{Row, Table, labels_of, grid, top}
use Rattle.plan.specs.Verdict.{fine}
use Rattle.plan.specs.Widths.{enough_tables, columns_exist, made_columns}
use Rattle.plan.specs.declared.Step.{Step}
use Rattle.plan.specs.declared.Step.TheVariants.{Noise}
use Rattle.extension.proofs.Ends.{extension-done}
use Rattle.extension.proofs.LabelledRows.{Formed, rows-formed}
use Rattle.extension.proofs.Rows.{extended-same}
use Rattle.extension.specs.promises.Extending.{rows_made}
use Rattle.extension.specs.promises.Rows.{made_cell, extended_from}
use Rattle.memory.proofs.Finish.{answered-done, fine-parts, or_nothing}
use Rattle.memory.proofs.FormedTables.{formed-table}
use Rattle.memory.proofs.LiveTables.{fits-parts, Stands, stands, inside, marks-inside, table-within, grid-is, stack_top, top-width}
use Rattle.noise.proofs.RowMade.{new_of, noisy-is, cell-made}

-- what a NOISE that fits finds
pub record NoiseFits (column : ℕ) (values labels : ℕ) (stack : Stack) (table : LiveTable) (width : ℕ) : Type 0 where
  pub is-ready : Ready values labels stack
  pub here : Stands stack 0 table
  pub inside_is : Inside table values labels
  pub below : column < table.columns
  pub width_is : width ≡ table.columns + 1
  pub narrow : table.columns + 1 ≤ 8

module _ (column : ℕ) where
  abbrev step : Step
  step = Noise column

  pub noise-parts : (tables : List ℕ) (values labels : ℕ) (stack : Stack) (table : LiveTable) (width : ℕ) → table ≡ live_table stack 0 → fits step tables values labels stack ≡ true
      → width ≡ made_columns step tables (widths_to stack stack.depth) → NoiseFits column values labels stack table width
  unfolding enough_tables columns_exist made_columns
  noise-parts tables values labels stack table width e t w =
      let widths = widths_to stack stack.depth in
      let parts = fits-parts step tables values labels stack t in
      let here = stands stack 0 table parts.0.depth (leb-true 1 stack.depth parts.1) e in
      let placed = (and-eq-true_iff (columns_exist step tables widths) (leb (made_columns step tables widths) 8)).0 parts.2 in
      record {
        is-ready = parts.0;
        here = here;
        inside_is = inside here parts.0;
        below = ltb-true column _ (rw (top-width here) at placed.0);
        width_is = w ∙ ap (λ (n : ℕ). n + 1) (top-width here);
        narrow = leb-true _ 8 (rw (top-width here) at placed.1);
      }

  module _ (supply : Supply) (m : Memory) (stack : Stack) {table : LiveTable} {width : ℕ} (room : mark_room ≤ length m.marks) (t : fits_in step supply m stack ≡ true)
      (f : NoiseFits column (length m.work.values) (length m.work.labels) stack table width) where
    -- the labels, which do not depend on the marks
    abbrev labels : List ℕ
    labels = m.work.labels

    marked : MarksInside table (length m.marks)
    marked = marks-inside f.here f.is-ready room

    grids : map labels_of (marked_in m table) ≡ labels_in labels table
    grids = grid-is m f.inside_is marked

    -- the draws left
    abbrev left : ℕ
    left = length supply.draws

    -- all that is asked, as the code tests it
    fits-is : noise_fits column supply m stack ≡ column_formed_at labels table.at table.rows table.columns column
    fits-is =
        rw (t, table-within f.inside_is, lt-ltb column table.columns f.below)
        (ap (λ (s : List Table). column_formed column (grid (top s))) (stack_top m f.here) ∙ ap (column_formed column) grids)

    check-is : check step left (map grid (stack_in m stack)) ≡ check_noise column left (labels_in labels table)
    unfolding check
    check-is = ap (λ (s : List Table). check step left (map grid s)) (stack_top m f.here) ∙ ap (check_noise column left) grids

    verdict-is : verdict step supply (stack_in m stack) ≡ check_noise column left (labels_in labels table)
    unfolding too_many
    verdict-is = or_nothing _ ∙ check-is

    made-is : make step supply (stack_in m stack) ≡ record { columns = table.columns + 1; rows = extended_from (new_of column supply.draws) 0 (marked_in m table) }
    unfolding make with_noise
    made-is = ap (make step supply) (stack_top m f.here) ∙ ap (λ (l : List Row). record { columns = table.columns + 1; rows = l }) (noisy-is column supply.draws 0 (marked_in m table))

    -- the labels refuse it, or are none
    pub refused-noise : (wrong : StepError) → error_says wrong ≡ noise_says labels table column left
        → DoneWhere (noise_fits column supply m stack) step supply m stack (Err wrong) m
    refused-noise wrong e = answered-done step supply m stack wrong verdict-is (e ∙ ap (λ (b : Bool). cond b (says (check_noise column left (labels_in labels table))) unfit) (sym fits-is))

    pub made-noise : says fine ≡ noise_says labels table column left → {after : Work}
        → RowsAt table.at (rows_made (λ number first row. noisy first (get_or supply.draws number (pos 0))) (λ word. label_at word) table column m.work) m.work after
        → DoneWhere (noise_fits column supply m stack) step supply m stack (Ok (with_table stack table.slot width table.rows)) (record { work = after; marks = m.marks })
    made-noise e rows =
        let p = fine-parts _ e in
        let formed = (formed-table labels table column p.0).formed in
        let same = extended-same (Formed table.columns column) (made_cell (λ number first row. noisy first (get_or supply.draws number (pos 0))) (λ word. label_at word) column) (new_of column supply.draws)
        (cell-made table.columns column supply.draws) 0 (rows_in m.work table) (rows-formed m.work table f.inside_is column formed) in
        rw f.width_is (extension-done (new_of column supply.draws) (λ i row. refl) step supply m stack f.is-ready f.here f.inside_is room
        (fits-is ∙ p.0) refl (verdict-is ∙ p.1) f.narrow made-is (rw same at rows))

-- arguments that do not fit NOISE
pub misfit-first : (column : ℕ) (supply : Supply) (m : Memory) (stack : Stack) → fits_in (Noise column) supply m stack ≡ false → noise_fits column supply m stack ≡ false
misfit-first column supply m stack e = rw e
