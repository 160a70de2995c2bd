-- Tables whose labels are well-formed. Assumes nothing.
use Prim.Native.Nat.{ℕ, zero, suc}
use mathlib.Core.Path.{◌≡◌, refl}
use mathlib.Core.Bool.{Bool, true}
use mathlib.Core.List.{List, [], ◌∷◌, map}
use lib.ListN.{get_or, get_or-map}
use Rattle.plan.specs.Masks.{in_mask}
use Rattle.cells.specs.promises.Labelled.{column_formed, Formed, LabelledRow, Labelled}
use Rattle.plan.specs.Filter.{passing}
use Rattle.plan.specs.Keep.{kept_cells}
use Rattle.plan.specs.Table.{Cell, Row, Table, blank, cell_at, labels_of, top, Each}
use Rattle.label_laws.proofs.Laws.{zero-well-formed}
use Rattle.plan.proofs.SenseShape.{each_append, each-get, each-cond}

-- a cell's label, among the labels of its row
pub label_of : (column : ℕ) (row : Row) → get_or (labels_of row) column 0 ≡ (cell_at column row).label
label_of column row = get_or-map (λ (cell : Cell). cell.label) row.cells column blank

pub cell-formed : (column : ℕ) (row : Row) → LabelledRow row → Formed (cell_at column row)
cell-formed column row = each-get Formed row.cells column blank zero-well-formed

pub column-formed : (column : ℕ) (rows : List Row) → Each LabelledRow rows → column_formed column (map labels_of rows) ≡ true
column-formed column [] e = refl
column-formed column (row ∷ rows) e = rw (label_of column row, cell-formed column row e.0) (column-formed column rows e.1)

pub top-labelled : (stack : List Table) → Each Labelled stack → Labelled (top stack)
top-labelled stack = each-get Labelled stack 0 _ tt

-- some of a row's cells, some of the rows
pub kept-formed : (mask columns : ℕ) (row : Row) → LabelledRow row → Each Formed (kept_cells mask columns row)
kept-formed mask zero row e = tt
kept-formed mask (suc column) row e =
    each_append Formed (kept_cells mask column row) _ (kept-formed mask column row e) (each-cond Formed (in_mask mask column) (cell_at column row ∷ []) [] (cell-formed column row e, tt) tt)

pub passing-formed : (pass : Row → Bool) (rows : List Row) → Each LabelledRow rows → Each LabelledRow (passing pass rows)
passing-formed pass [] e = tt
passing-formed pass (row ∷ rows) e = each-cond LabelledRow (pass row) (row ∷ passing pass rows) (passing pass rows) (e.0, passing-formed pass rows e.1) (passing-formed pass rows e.1)
