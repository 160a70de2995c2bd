-- "2. UNION. Left (pushed earlier) rows, then right rows, equal widths, no duplicate removed." The paper's UNION.
use Rattle.std.specs.Prelude.{◌++◌}
use Rattle.plan.specs.Table.{Table}

unfoldable pub united : Table → Table → Table
united left right = record { columns = left.columns; rows = left.rows ++ right.rows }
