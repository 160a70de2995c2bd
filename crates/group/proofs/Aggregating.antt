-- The aggregate of a group in memory. Assumes nothing.
use Prim.Native.Nat.{ℕ, ◌+◌, ◌-◌, ◌*◌, ◌≤◌, ◌<◌}
use mathlib.Core.Path.{◌≡◌, ap, ◌∙◌}
use mathlib.Core.List.{List, map}
use native.Mathlib.Omega.{arith}
use lib.IntN.{ℤ}
use lib.ListN.{length, drop, length-map}
use Rattle.accumulator.specs.promises.Accumulators.{single, with_values, aggregate_of}
use Rattle.accumulator.specs.declared.Accumulator.{Accumulator}
use Rattle.group.specs.promises.Members.{row_of, rows_from, later, members, column_values}
use Rattle.group.specs.declared.Grouping.{Grouping}
use Rattle.plan.specs.Group.{aggregate_value}
use Rattle.plan.specs.Table.{Cell, cell_at}
use Rattle.group.proofs.Choosing.{chosen-fewer}
use Rattle.accumulator.proofs.Laws.{value-is}
use Rattle.cells.proofs.Rows.{rows-length}

module _ (g : Grouping) (memory : List Cell) (leaders : List ℕ) (row : ℕ) (s : Accumulator) (few : g.table.rows ≤ 256) (h : row < g.table.rows)
    (e : s ≡ with_values (single (cell_at g.column (row_of g memory row)).value) (column_values g.column (later g memory leaders row))) where
  few-later : length (later g memory leaders row) < g.table.rows
  few-later =
      let after = drop (g.table.at + (row + 1) * g.table.columns) memory in
      omega (arith, chosen-fewer row (drop (row + 1) leaders) (rows_from g memory (row + 1)), rows-length g.table.columns (g.table.rows - (row + 1)) after)

  first : ℤ
  first = (cell_at g.column (row_of g memory row)).value

  others : List ℤ
  others = column_values g.column (later g memory leaders row)

  as_many : length others ≡ length (later g memory leaders row)
  unfolding others
  as_many = length-map (map (cell_at g.column) (later g memory leaders row)) (λ (cell : Cell). cell.value) ∙ length-map (later g memory leaders row) (cell_at g.column)

  pub aggregate-is : aggregate_of g.aggregate s ≡ aggregate_value g.aggregate (column_values g.column (members g memory leaders row))
  unfolding first others
  aggregate-is = ap (aggregate_of g.aggregate) e ∙ value-is first others (omega (arith, as_many, few-later)) g.aggregate
