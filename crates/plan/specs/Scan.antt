-- "1. SCAN, a = table. Pushes it." The paper's RELATION.
use Rattle.std.specs.Prelude.{ℕ, List, get_or}
use Rattle.plan.specs.Table.{Table, no_table}

unfoldable pub scanned : ℕ → List Table → Table
scanned table tables = get_or tables table no_table
