-- A row of keys and an aggregate, written cell by cell. Assumes nothing.
use Prim.Native.Nat.{ℕ, zero, suc, ◌+◌, ◌-◌, ◌≤◌, ◌<◌}
use mathlib.Core.Path.{◌≡◌, sym, ◌∙◌}
use mathlib.Core.Bool.{true, false}
use mathlib.Core.List.{List, [], ◌∷◌, ◌++◌, append-nil}
use native.Mathlib.Nat.{add-zero, add-suc, le_refl}
use native.Mathlib.Numerals.{add-one}
use native.Mathlib.Omega.{arith}
use lib.IntN.{ℤ, pos}
use lib.ListN.{length, get_or, drop, set}
use lib.Seq.{get_or-take, get_or-drop}
use Rattle.cells.specs.promises.Cells.{row_from}
use Rattle.plan.specs.Masks.{in_mask}
use Rattle.cells.specs.promises.Work.{Work, work, cells_in}
use Rattle.cells.specs.promises.Written.{Written}
use Rattle.plan.specs.Keep.{kept_count, kept_cells}
use Rattle.plan.specs.Table.{Cell, blank, cell_at}
use Rattle.cells.proofs.CellLaws.{cell, cells-get, cells-set}
use Rattle.cells.proofs.Written.{one_written, read_below}
use Rattle.plan.proofs.SenseShape.{kept-length}

-- ---- how many columns are keys

pub count-key : (keys column : ℕ) → in_mask keys column ≡ true → kept_count keys (column + 1) ≡ kept_count keys column + 1
count-key keys column e = rw (add-one column, e)

pub count-other : (keys column : ℕ) → in_mask keys column ≡ false → kept_count keys (column + 1) ≡ kept_count keys column
count-other keys column e = rw (add-one column, e) (add-zero (kept_count keys column))

counts-grow : (keys column more : ℕ) → kept_count keys column ≤ kept_count keys (column + more)
counts-grow keys column zero = rw (add-zero column) (le_refl (kept_count keys column))
counts-grow keys column (suc more) = rw (add-suc column more) (omega (arith, counts-grow keys column more))

pub count-le : (keys column columns : ℕ) → column ≤ columns → kept_count keys column ≤ kept_count keys columns
count-le keys column columns h = let e : column + (columns - column) ≡ columns = omega arith in rw e at (counts-grow keys column (columns - column))

-- ---- one cell more

module _ (memory : List Cell) (keys columns column from to : ℕ) (m : Work)
    (w : Written memory to (kept_cells keys column (row_from columns memory from)) (cells_in m)) (h : column < columns) (below : from + columns ≤ to) where
  pub key-passed : in_mask keys column ≡ false → Written memory to (kept_cells keys (column + 1) (row_from columns memory from)) (cells_in m)
  key-passed e = rw (add-one column, e, append-nil) w

  module _ (room : to + kept_count keys column < length memory) (in-values : from + column < length m.values) (in-labels : from + column < length m.labels) where
    read : cell_at column (row_from columns memory from) ≡ cell (get_or m.values (from + column) (pos 0)) (get_or m.labels (from + column) 0)
    read =
        get_or-take columns (drop from memory) column blank h ∙ get_or-drop from memory column blank
        ∙ sym (read_below w (from + column) blank (omega arith)) ∙ cells-get m (from + column) (pos 0) in-values in-labels

    pub key-written : in_mask keys column ≡ true
        → Written memory to (kept_cells keys (column + 1) (row_from columns memory from))
        (cells_in (work (set m.values (to + kept_count keys column) (get_or m.values (from + column) (pos 0))) (set m.labels (to + kept_count keys column) (get_or m.labels (from + column) 0))))
    key-written e =
        let l : length (kept_cells keys column (row_from columns memory from)) ≡ kept_count keys column = kept-length keys column (row_from columns memory from) in
        rw (add-one column, e, cells-set m (to + kept_count keys column) (get_or m.values (from + column) (pos 0)) (get_or m.labels (from + column) 0), read) (rw l at (one_written w (cell (get_or m.values (from + column) (pos 0)) (get_or m.labels (from + column) 0)) (rw l room)))

-- the aggregate, after the keys
pub last_written : (memory : List Cell) (keys columns from to : ℕ) (m : Work) (v : ℤ) (l : ℕ) → Written memory to (kept_cells keys columns (row_from columns memory from)) (cells_in m)
    → to + kept_count keys columns < length memory
    → Written memory to (kept_cells keys columns (row_from columns memory from) ++ (cell v l ∷ [])) (cells_in (work (set m.values (to + kept_count keys columns) v) (set m.labels (to + kept_count keys columns) l)))
last_written memory keys columns from to m v l w room =
    let e : length (kept_cells keys columns (row_from columns memory from)) ≡ kept_count keys columns = kept-length keys columns (row_from columns memory from) in
    rw (cells-set m (to + kept_count keys columns) v l) (rw e at (one_written w (cell v l) (rw e room)))
