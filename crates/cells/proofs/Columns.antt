-- A search down a column of labels: what is left of it from a row on, whose first label stands at a place. Assumes nothing.
use Prim.Native.Nat.{ℕ, suc, ◌+◌, ◌-◌, ◌*◌, ◌≤◌, ◌<◌}
use mathlib.Core.Path.{◌≡◌, ◌∙◌}
use mathlib.Core.Bool.{◌&&◌}
use mathlib.Core.List.{List, ◌∷◌}
use native.Mathlib.Nat.{zero-mul, mul-le-mul_right}
use native.Mathlib.Numerals.{add-one}
use native.Mathlib.Omega.{arith}
use lib.ListN.{get_or, take, drop}
use lib.Seq.{drop-drop, get_or-take, get_or-drop}
use Rattle.label_words.specs.WellFormed.{well_formed}
use Rattle.cells.specs.promises.Cells.{grid_of}
use Rattle.cells.specs.promises.Labelled.{column_formed}
use Rattle.plan.specs.Verdict.{Verdict, or_else, first_row}

-- a row stands among the table's cells
pub row_room : (at rows columns row n : ℕ) → row < rows → at + rows * columns ≤ n → at + (row * columns + columns) ≤ n
row_room at rows columns row n h k = omega (arith, mul-le-mul_right columns h)

-- a walk down a column has come to a row, whose first cell stands at a place of a slice of this length
pub record Walking (length at rows columns column row place : ℕ) : Type 0 where
  pub few-rows : rows ≤ 256
  pub has-column : column < columns
  pub within : at + rows * columns ≤ length
  pub upto : row ≤ rows
  pub here : place ≡ at + row * columns

pub walk_begins : (length at rows columns column : ℕ) → rows ≤ 256 → column < columns → at + rows * columns ≤ length → Walking length at rows columns column 0 at
walk_begins length at rows columns column r c h = record { few-rows = r; has-column = c; within = h; upto = omega arith; here = omega (arith, zero-mul columns) }

module _ {length at rows columns column row place : ℕ} (w : Walking length at rows columns column row place) (h : row < rows) where
  pub inside : place + columns ≤ length
  inside = omega (arith, row_room at rows columns row length h w.within, w.here)

  pub walk-on : Walking length at rows columns column (row + 1) (place + columns)
  walk-on = record { few-rows = w.few-rows; has-column = w.has-column; within = w.within; upto = omega arith; here = omega (arith, w.here) }

-- ---- what is left of the column

module _ (labels : List ℕ) (columns column rows row place : ℕ) (h : row < rows) (k : column < columns) where
  pub grid-next : grid_of columns (rows - row) (drop place labels) ≡ take columns (drop place labels) ∷ grid_of columns (rows - (row + 1)) (drop (place + columns) labels)
  grid-next = let e : rows - row ≡ suc (rows - (row + 1)) = omega arith in rw (e, drop-drop columns place labels)

  pub read_next : get_or (take columns (drop place labels)) column 0 ≡ get_or labels (place + column) 0
  read_next = get_or-take columns (drop place labels) column 0 k ∙ get_or-drop place labels column 0

  pub formed-next : column_formed column (grid_of columns (rows - row) (drop place labels))
      ≡ (well_formed (get_or labels (place + column) 0) && column_formed column (grid_of columns (rows - (row + 1)) (drop (place + columns) labels)))
  formed-next = rw (grid-next, read_next)

  -- the first refusal of a test of each row
  pub tested-next : (test : ℕ → List ℕ → Verdict) → first_row test row (grid_of columns (rows - row) (drop place labels))
      ≡ or_else (test row (take columns (drop place labels))) (first_row test (row + 1) (grid_of columns (rows - (row + 1)) (drop (place + columns) labels)))
  tested-next test = rw (grid-next, add-one row)
