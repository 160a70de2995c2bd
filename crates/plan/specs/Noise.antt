-- #102: "NOISE, a = column, level N. It appends a column: each row's value plus the next number from a lent list of signed draws. One draw is
-- used per row, in row order".
use Rattle.std.specs.Prelude.{ℕ, ◌+◌, List, [], ◌∷◌, ◌++◌, leb, ℤ, pos, get_or, drop}
use Rattle.label_discharge.specs.Discharge.{forbids_n, after_n}
use Rattle.noise_value.specs.Noise.{noisy}
use Rattle.plan.specs.Table.{Cell, Row, Table, cell_at}
use Rattle.plan.specs.Verdict.{Verdict, or_else, refuse_if, first_row}

-- "forbidden with 32 where T, A or H stands highest"; "37 at a row for which no draw is left, column a, after 32 in that row". `left` is the
-- number of draws left when the step begins.
abbrev pub noise_refusal : ℕ → ℕ → ℕ → ℕ → Verdict
noise_refusal column left row label = or_else (refuse_if (forbids_n label) 32 row column) (refuse_if (leb left row) 37 row column)

abbrev pub noise_row : ℕ → ℕ → ℕ → List ℕ → Verdict
noise_row column left row labels = noise_refusal column left row (get_or labels column 0)

unfoldable pub check_noise : ℕ → ℕ → List (List ℕ) → Verdict
check_noise column left = first_row (noise_row column left) 0

-- "The new label is that value's, discharged at level N."
abbrev pub noisy_cell : Cell → ℤ → Cell
noisy_cell cell draw = record { value = noisy cell.value draw; label = after_n cell.label }

abbrev pub noisy_row : ℕ → Row → ℤ → Row
noisy_row column row draw = record { cells = row.cells ++ (noisy_cell (cell_at column row) draw ∷ []); mark = row.mark }

-- each row with the next draw; 37 refuses a row for which there is none
abbrev pub noisy_rows : ℕ → List ℤ → List Row → List Row
noisy_rows column draws [] = []
noisy_rows column draws (row ∷ rest) = noisy_row column row (get_or draws 0 (pos 0)) ∷ noisy_rows column (drop 1 draws) rest

unfoldable pub with_noise : ℕ → List ℤ → Table → Table
with_noise column draws table = record { columns = table.columns + 1; rows = noisy_rows column draws table.rows }
