-- A walk from row to row of a table, in any order. Assumes nothing.
use Prim.Native.Nat.{ℕ, ◌+◌, ◌*◌, ◌≤◌, ◌<◌}
use native.Mathlib.Omega.{arith}
use Rattle.cells.proofs.Columns.{Walking, row_room}
use Rattle.group.specs.promises.Members.{ColumnInside}
use Rattle.group.specs.declared.Grouping.{Grouping}

pub walk_from : (g : Grouping) (length row : ℕ) → ColumnInside g length → row ≤ g.table.rows → Walking length g.table.at g.table.rows g.table.columns g.column row (g.table.at + row * g.table.columns)
walk_from g length row i h = record { few-rows = i.few-rows; has-column = i.has-column; within = i.within; upto = h; here = omega arith }

-- the walk goes to another row
pub walk-to : {length at rows columns column row place : ℕ} (n : ℕ) → Walking length at rows columns column row place → n ≤ rows → Walking length at rows columns column n (at + n * columns)
walk-to n w h = record { few-rows = w.few-rows; has-column = w.has-column; within = w.within; upto = h; here = omega arith }

-- another slice that has the table
pub inside-other : {length at rows columns column row place : ℕ} (n : ℕ) → Walking length at rows columns column row place → row < rows → at + rows * columns ≤ n → place + columns ≤ n
inside-other {length} {at} {rows} {columns} {column} {row} {place} n w h k = omega (arith, row_room at rows columns row n h k, w.here)
