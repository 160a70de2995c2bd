-- Rows with the same keys: for each row the first one and the next one.
use Rattle.std.specs.Prelude.{ℕ, suc, ◌+◌, ◌-◌, ◌*◌, ◌≤◌, ◌<◌, ◌≡◌, true, false, cond, List, [], ◌∷◌, ◌++◌, ℤ, length, get_or, take, drop, replicate}
use Rattle.cells.specs.promises.Cells.{cells_of, row_from, table_rows}
use Rattle.cells.specs.promises.Search.{table_within}
use Rattle.chains.specs.declared.Chains.{Chains}
use Rattle.plan.specs.Group.{same_keys}
use Rattle.plan.specs.Table.{Cell, Row}

-- the number of the first of the earlier rows with the keys of a row; where there is none, how many they are
abbrev pub first_same : ℕ → ℕ → Row → List Row → ℕ
first_same keys columns row [] = 0
first_same keys columns row (other ∷ rest) = cond (same_keys keys columns other row) 0 (suc (first_same keys columns row rest))

-- the same of a row of the table that begins at a place
abbrev pub first_of : ℕ → ℕ → ℕ → List Cell → ℕ → ℕ
first_of keys columns row memory at = first_same keys columns (row_from columns memory (at + row * columns)) (table_rows columns row memory at)

-- for each row the number of the first row with its keys
abbrev pub leaders_after : ℕ → ℕ → List Row → List Row → List ℕ
leaders_after keys columns earlier [] = []
leaders_after keys columns earlier (row ∷ rest) = first_same keys columns row earlier ∷ leaders_after keys columns (earlier ++ (row ∷ [])) rest

-- the leaders of a table's rows, whatever its labels, and zeros after them
pub record Led (values : List ℤ) (at rows columns keys : ℕ) (leaders : List ℕ) : Type 0 where
  pub full : length leaders ≡ 256
  pub are : (labels : List ℕ) → at + rows * columns ≤ length labels → take rows leaders ≡ leaders_after keys columns [] (table_rows columns rows (cells_of values labels) at)
  pub rest : drop rows leaders ≡ replicate (256 - rows) 0

-- the first row from one on that a number stands beside; where there is none, how many rows there are
pub record FirstLed (rows : ℕ) (leaders : List ℕ) (number from at : ℕ) : Type 0 where
  pub onward : from ≤ at
  pub upto : at ≤ rows
  pub led : at < rows → get_or leaders at 0 ≡ number
  pub none : (other : ℕ) → from ≤ other → other < at → get_or leaders other 0 ≡ number → ⊥

-- for each row the next one with its leader
pub record Chain (rows : ℕ) (leaders next : List ℕ) : Type 0 where
  pub long : rows ≤ length leaders
  pub each : (row : ℕ) → row < rows → FirstLed rows leaders (get_or leaders row 0) (row + 1) (get_or next row 0)

-- for each row a later one, or how many rows there are
pub record Onward (rows : ℕ) (next : List ℕ) : Type 0 where
  pub full : length next ≡ 256
  pub further : (row : ℕ) → row < rows → row < get_or next row 0
  pub upto : (row : ℕ) → row < rows → get_or next row 0 ≤ rows

-- the next rows of a table's rows, and zeros after them
pub record Next (rows : ℕ) (leaders next : List ℕ) : Type 0 where
  pub chain : Chain rows leaders next
  pub onward : Onward rows next
  pub rest : drop rows next ≡ replicate (256 - rows) 0

-- The chains of a table within the values; all are zero where it is not.
pub record Chained (values : List ℤ) (at rows columns keys : ℕ) (chains : Chains) : Type 0 where
  pub misfit : table_within at rows columns (length values) ≡ false → chains ≡ record { first = replicate 256 0; next = replicate 256 0 }
  pub leaders : table_within at rows columns (length values) ≡ true → Led values at rows columns keys chains.first
  pub others : table_within at rows columns (length values) ≡ true → Next rows chains.first chains.next
