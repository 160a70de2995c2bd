-- Which draw NOISE adds to which row, and which draws are left. These are theorems about the definitions, each proved; nothing here is to be
-- believed.
use Rattle.std.specs.Prelude.{ℕ, ◌≤◌, ◌<◌, ◌≡◌, true, false, List, map, pos, length, get_or, drop}
use Rattle.plan.specs.Noise.{noisy_row}
use Rattle.plan.specs.Numbers.{is_noise}
use Rattle.plan.specs.Sense.Refusals.{row_in}
use Rattle.plan.specs.Steps.{check, make, draws_used, supply_after}
use Rattle.plan.specs.Supply.{Supply}
use Rattle.plan.specs.Table.{Table, grid, top}
use Rattle.plan.specs.Verdict.{fine}
use Rattle.plan.specs.declared.Step.{Step}
use Rattle.plan.specs.declared.Step.TheVariants.{Noise}

-- NOISE makes of each row that row and one cell more: its own value plus the draw of the row's number, counted from the draws left
abbrev pub NoiseRows : Type 0
NoiseRows = (column : ℕ) (supply : Supply) (stack : List Table)
    → (length (make (Noise column) supply stack).rows ≡ length (top stack).rows)
    × ((i : ℕ) → i < length (top stack).rows
    → row_in i (make (Noise column) supply stack) ≡ noisy_row column (row_in i (top stack)) (get_or supply.draws i (pos 0)))

-- a step that is not refused finds as many draws as it uses, NOISE one for each row
abbrev pub DrawsEnough : Type 0
DrawsEnough = (step : Step) (left : ℕ) (stack : List Table) → check step left (map grid stack) ≡ fine → draws_used step (length (top stack).rows) ≤ left

-- and the next NOISE goes on behind the last draw used: over n rows, the draws from n on are left
abbrev pub DrawsLeft : Type 0
DrawsLeft = (step : Step) (supply : Supply) (stack : List Table)
    → (is_noise step ≡ true → (supply_after step stack supply).draws ≡ drop (length (top stack).rows) supply.draws)
    × (is_noise step ≡ false → supply_after step stack supply ≡ supply)
