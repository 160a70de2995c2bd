-- "5. KEEP, a = mask, not zero, bit i for column i. Kept columns stay in order." A PROJECT of the paper's on plain columns.
use Rattle.std.specs.Prelude.{ℕ, zero, suc, ◌+◌, cond, List, [], ◌∷◌, ◌++◌, map}
use Rattle.plan.specs.Masks.{in_mask}
use Rattle.plan.specs.Table.{Cell, Row, Table, cell_at}

-- how many of the first columns are in a mask
abbrev pub kept_count : ℕ → ℕ → ℕ
kept_count mask zero = 0
kept_count mask (suc column) = kept_count mask column + cond (in_mask mask column) 1 0

-- the cells of the first columns that are in a mask
abbrev pub kept_cells : ℕ → ℕ → Row → List Cell
kept_cells mask zero row = []
kept_cells mask (suc column) row = kept_cells mask column row ++ cond (in_mask mask column) (cell_at column row ∷ []) []

abbrev pub kept_row : ℕ → ℕ → Row → Row
kept_row mask columns row = record { cells = kept_cells mask columns row; mark = row.mark }

unfoldable pub kept : ℕ → Table → Table
kept mask table = record { columns = kept_count mask table.columns; rows = map (kept_row mask table.columns) table.rows }
