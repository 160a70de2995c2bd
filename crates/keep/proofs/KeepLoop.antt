-- KEEP, cell by cell and row by row: what is written, put before what is left. Assumes nothing.
use Prim.Native.Nat.{ℕ, zero, suc, ◌+◌, ◌*◌, ◌≤◌, ◌<◌}
use mathlib.Core.Path.{◌≡◌, refl, sym, ap, ap₂, subst, ◌∙◌}
use mathlib.Core.Bool.{Bool, true, false, cond}
use mathlib.Core.List.{List, [], ◌∷◌, ◌++◌, map, map-append, append-nil}
use native.Mathlib.Nat.{mul-le-mul_right}
use native.Mathlib.Numerals.{add-one}
use native.Mathlib.Omega.{arith}
use lib.IntN.{pos}
use lib.ListN.{length, get_or, take, drop, set, length-append, length-set, length-map}
use lib.Seq.{get_or-take, get_or-drop}
use Rattle.plan.specs.Masks.{in_mask}
use Rattle.cells.specs.promises.Cells.{bare_row, bare_rows, Wide, row_from}
use Rattle.cells.specs.promises.Work.{Work, work, cells_in, room, Kept}
use Rattle.cells.specs.promises.Written.{Written, CellsWritten}
use Rattle.live_tables.specs.declared.LiveTable.{LiveTable}
use Rattle.memory.specs.promises.Stack.{Inside}
use Rattle.plan.specs.Keep.{kept_count, kept_cells, kept_row}
use Rattle.plan.specs.Table.{Each, Cell, Row, blank, cell_at, flat}
use Rattle.keep.specs.promises.Keeping.{RowKept}
use Rattle.cells.proofs.CellLaws.{cells-length, cells-get, cells-set, kept-none, kept_then, kept_set}
use Rattle.cells.proofs.RowReads.{row-cells, flat_append, flat-length}
use Rattle.cells.proofs.Rows.{rows-more, rows-length}
use Rattle.memory.proofs.LiveTables.{cells-room}
use Rattle.cells.proofs.Written.{nothing_written, one_written, read_past, past-any, then-written}

-- ---- how many cells are kept

pub count-below : (mask n : ℕ) → kept_count mask n ≤ n
count-below mask zero = omega arith
count-below mask (suc n) = omega (arith, count-below mask n, one-small (in_mask mask n))
  where
    one-small : (b : Bool) → cond b 1 0 ≤ 1
    one-small true = omega arith
    one-small false = omega arith

pub count_next : (mask n : ℕ) (b : Bool) → in_mask mask n ≡ b → kept_count mask (n + 1) ≡ kept_count mask n + cond b 1 0
count_next mask n b e = ap (kept_count mask) (add-one n) ∙ ap (λ (b : Bool). kept_count mask n + cond b 1 0) e

kept-length : (mask n : ℕ) (row : Row) → length (kept_cells mask n row) ≡ kept_count mask n
kept-length mask zero row = refl
kept-length mask (suc n) row = length-append (kept_cells mask n row) _ ∙ ap₂ ◌+◌ (kept-length mask n row) (one_cell (in_mask mask n))
  where
    one_cell : (b : Bool) → length (cond b (cell_at n row ∷ []) []) ≡ cond b 1 0
    one_cell true = refl
    one_cell false = refl

pub kept-wide : (mask columns : ℕ) (rows : List Row) → Each (Wide (kept_count mask columns)) (map (kept_row mask columns) rows)
kept-wide mask columns [] = tt
kept-wide mask columns (row ∷ rows) = (kept-length mask columns row, kept-wide mask columns rows)

-- ---- one row

pub record KeepingRow (mask from to columns : ℕ) (w₀ w : Work) (next column : ℕ) : Type 0 where
  pub column-le : column ≤ columns
  pub next-is : next ≡ to + kept_count mask column
  pub next_le : next ≤ from + column
  pub as-many-values : length w.values ≡ length w₀.values
  pub as-many-labels : length w.labels ≡ length w₀.labels
  pub written : Written (cells_in w₀) to (kept_cells mask column (row_from columns (cells_in w₀) from)) (cells_in w)
  pub same : Kept w₀ w

abbrev pub read_from : Work → ℕ → Cell
read_from w i = record { value = get_or w.values i (pos 0); label = get_or w.labels i 0 }

module _ {mask from to columns : ℕ} {w₀ : Work} (lower : to ≤ from) (in_memory : from + columns ≤ room) (in-values : from + columns ≤ length w₀.values) (in-labels : from + columns ≤ length w₀.labels) where
  pub row-begins : KeepingRow mask from to columns w₀ w₀ to 0
  row-begins = record {
    column-le = omega arith;
    next-is = omega arith;
    next_le = omega arith;
    as-many-values = refl;
    as-many-labels = refl;
    written = nothing_written (cells_in w₀) to (omega (arith, cells-length w₀ (from + columns) in-values in-labels));
    same = kept-none w₀;
  }

  module _ {w : Work} {next column : ℕ} (i : KeepingRow mask from to columns w₀ w next column) (h : column < columns) where
    cell-read : read_from w (from + column) ≡ cell_at column (row_from columns (cells_in w₀) from)
    cell-read =
        sym (cells-get w (from + column) (pos 0) (omega (arith, i.as-many-values)) (omega (arith, i.as-many-labels)))
        ∙ read_past i.written (from + column) blank (omega (arith, kept-length mask column (row_from columns (cells_in w₀) from), i.next-is, i.next_le))
        ∙ sym (get_or-drop from (cells_in w₀) column blank) ∙ sym (get_or-take columns (drop from (cells_in w₀)) column blank h)

    pub cell-kept : in_mask mask column ≡ true
        → KeepingRow mask from to columns w₀ (work (set w.values next (read_from w (from + column)).value) (set w.labels next (read_from w (from + column)).label)) (next + 1) (column + 1)
    cell-kept b =
        let more : kept_cells mask (column + 1) (row_from columns (cells_in w₀) from) ≡ kept_cells mask column (row_from columns (cells_in w₀) from) ++ (cell_at column (row_from columns (cells_in w₀) from) ∷ [])
        = ap (λ (n : ℕ). kept_cells mask n (row_from columns (cells_in w₀) from)) (add-one column) ∙ ap (λ (b : Bool). kept_cells mask column (row_from columns (cells_in w₀) from) ++ cond b (cell_at column (row_from columns (cells_in w₀) from) ∷ []) []) b in
        let place : to + length (kept_cells mask column (row_from columns (cells_in w₀) from)) ≡ next = ap (λ (n : ℕ). to + n) (kept-length mask column (row_from columns (cells_in w₀) from)) ∙ sym i.next-is in
        let cells : cells_in (work (set w.values next (read_from w (from + column)).value) (set w.labels next (read_from w (from + column)).label)) ≡ set (cells_in w) next (cell_at column (row_from columns (cells_in w₀) from))
        = cells-set w next _ _ ∙ ap (set (cells_in w) next) cell-read in
        record {
          column-le = omega arith;
          next-is = omega (arith, count_next mask column true b, i.next-is);
          next_le = omega (arith, i.next_le);
          as-many-values = length-set w.values next _ ∙ i.as-many-values;
          as-many-labels = length-set w.labels next _ ∙ i.as-many-labels;
          written = rw (more, cells)
              (rw place at (one_written i.written (cell_at column (row_from columns (cells_in w₀) from)) (omega (arith, place, i.next_le, cells-length w₀ (from + columns) in-values in-labels))));
          same = kept_set next _ _ (omega (arith, i.next_le)) i.same;
        }

    pub cell-left : in_mask mask column ≡ false → KeepingRow mask from to columns w₀ w next (column + 1)
    cell-left b =
        let less : kept_cells mask (column + 1) (row_from columns (cells_in w₀) from) ≡ kept_cells mask column (row_from columns (cells_in w₀) from)
        = ap (λ (n : ℕ). kept_cells mask n (row_from columns (cells_in w₀) from)) (add-one column) ∙ ap (λ (b : Bool). kept_cells mask column (row_from columns (cells_in w₀) from) ++ cond b (cell_at column (row_from columns (cells_in w₀) from) ∷ []) []) b ∙ append-nil _ in
        record {
          column-le = omega arith;
          next-is = omega (arith, count_next mask column false b, i.next-is);
          next_le = omega (arith, i.next_le);
          as-many-values = i.as-many-values;
          as-many-labels = i.as-many-labels;
          written = rw less i.written;
          same = i.same;
        }

pub row_ends : {mask from to columns : ℕ} {w₀ w : Work} {next column : ℕ} → column ≡ columns → KeepingRow mask from to columns w₀ w next column
    → RowKept mask from to columns w₀ next w
row_ends {mask} {from} {to} {columns} {w₀} {w} e i = record {
  ended = i.next-is ∙ ap (λ (n : ℕ). to + kept_count mask n) e;
  written = subst (λ (n : ℕ). Written (cells_in w₀) to (kept_cells mask n (row_from columns (cells_in w₀) from)) (cells_in w)) e i.written;
  kept = i.same;
}

-- ---- the rows

pub record KeepingRows (mask : ℕ) (top : LiveTable) (w₀ w : Work) (from to row : ℕ) : Type 0 where
  pub row-le : row ≤ top.rows
  pub from_is : from ≡ top.at + row * top.columns
  pub to_is : to ≡ top.at + row * kept_count mask top.columns
  pub to_le : to ≤ from
  pub written : CellsWritten w₀ top.at (flat (map (kept_row mask top.columns) (bare_rows top.columns row (drop top.at (cells_in w₀))))) w
  pub same : Kept w₀ w

-- the first rows of a table
abbrev first_rows : LiveTable → Work → ℕ → List Row
first_rows top w n = bare_rows top.columns n (drop top.at (cells_in w))

module _ {mask : ℕ} {top : LiveTable} {w₀ : Work} (inside : Inside top (length w₀.values) (length w₀.labels)) where
  pub rows-begin : KeepingRows mask top w₀ w₀ top.at top.at 0
  rows-begin = record {
    row-le = omega arith;
    from_is = omega arith;
    to_is = omega arith;
    to_le = omega arith;
    written = nothing_written (cells_in w₀) top.at (omega (arith, inside.below, cells-room w₀ inside));
    same = kept-none w₀;
  }

  module _ {w : Work} {from to row : ℕ} (i : KeepingRows mask top w₀ w from to row) (h : row < top.rows) where
    -- the row that is read lies within memory
    pub row-reach : from + top.columns ≤ top.at + top.rows * top.columns
    row-reach = omega (arith, i.from_is, mul-le-mul_right top.columns h)

    pub row_fits : (to ≤ from) × (top.columns ≤ 8) × (from + top.columns ≤ room) × (from + top.columns ≤ length w.values) × (from + top.columns ≤ length w.labels)
    row_fits = (i.to_le, inside.few-columns, omega (arith, row-reach, inside.below), omega (arith, row-reach, inside, i.same.as-many-values), omega (arith, row-reach, inside, i.same.as-many-labels))

    pub row_next : {end : ℕ} {w' : Work} → RowKept mask from to top.columns w end w'
        → KeepingRows mask top w₀ w' (from + top.columns) end (row + 1)
    row_next {end} {w'} k =
        let done = flat (map (kept_row mask top.columns) (first_rows top w₀ row)) in
        let read : Row = bare_row (take top.columns (drop from (cells_in w))) in
        let long : top.at + length done ≡ to
        = ap (λ (n : ℕ). top.at + n) (flat-length (kept_count mask top.columns) (map (kept_row mask top.columns) (first_rows top w₀ row)) (kept-wide mask top.columns (first_rows top w₀ row)) ∙ ap (λ (n : ℕ). n * kept_count mask top.columns) (length-map (first_rows top w₀ row) (kept_row mask top.columns) ∙ rows-length top.columns row (drop top.at (cells_in w₀))))
        ∙ sym i.to_is in
        let cells : read.cells ≡ take top.columns (drop (row * top.columns) (drop top.at (cells_in w₀)))
        = ap (take top.columns) (past-any i.written from (omega (arith, long, i.to_le)) ∙ ap (λ (n : ℕ). drop n (cells_in w₀)) i.from_is) ∙ sym (row-cells (cells_in w₀) top.at top.columns row) in
        let more : flat (map (kept_row mask top.columns) (first_rows top w₀ (row + 1))) ≡ done ++ kept_cells mask top.columns read
        = ap (λ (n : ℕ). flat (map (kept_row mask top.columns) (first_rows top w₀ n))) (add-one row) ∙ ap (λ (r : List Row). flat (map (kept_row mask top.columns) r)) (rows-more top.columns row (drop top.at (cells_in w₀)))
        ∙ ap flat (map-append (kept_row mask top.columns) (first_rows top w₀ row) _) ∙ flat_append (map (kept_row mask top.columns) (first_rows top w₀ row)) _
        ∙ ap (λ (t : List Cell). done ++ t) (append-nil _ ∙ ap (λ (c : List Cell). kept_cells mask top.columns (bare_row c)) (sym cells)) in
        record {
          row-le = omega arith;
          from_is = omega (arith, i.from_is);
          to_is = omega (arith, k.ended, i.to_is);
          to_le = omega (arith, k.ended, i.to_le, count-below mask top.columns);
          written = rw more (then-written i.written (sym long) k.written);
          same = kept_then i.same k.kept;
        }
