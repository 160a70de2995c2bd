-- The eight steps: what each takes off the stack, refuses, makes and uses up.
use Rattle.std.specs.Prelude.{ℕ, Bool, cond, ◌&&◌, List, [], eqb, ltb, length, get_or}
use Rattle.plan.specs.Apply.{check_apply, applied}
use Rattle.plan.specs.Filter.{check_filter, filtered}
use Rattle.plan.specs.Group.{check_group, grouped}
use Rattle.plan.specs.Join.{check_join, joined}
use Rattle.plan.specs.Keep.{kept}
use Rattle.plan.specs.Noise.{check_noise, with_noise}
use Rattle.plan.specs.Numbers.{is_noise}
use Rattle.plan.specs.Scan.{scanned}
use Rattle.plan.specs.Supply.{Supply, without_draws}
use Rattle.plan.specs.Table.{Table, top, second}
use Rattle.plan.specs.Union.{united}
use Rattle.plan.specs.Verdict.{Verdict, fine, refuse_if}
use Rattle.plan.specs.declared.Step.{Step}
use Rattle.plan.specs.declared.Step.TheVariants.{Scan, Union, Join, Filter, Keep, Apply, Group, Noise}

-- how many tables a step takes off the stack
abbrev pub takes : Step → ℕ
takes (Scan table) = 0
takes Union = 2
takes (Join left right) = 2
takes (Filter column comparison operand) = 1
takes (Keep mask) = 1
takes (Apply column transform) = 1
takes (Group keys aggregate column) = 1
takes (Noise column) = 1

-- What the labels of the stack's tables, the last pushed first, and the number of draws left forbid: 31, 32, 33, 37. No value plays a part.
unfoldable pub check : Step → ℕ → List (List (List ℕ)) → Verdict
check (Scan table) left grids = fine
check Union left grids = fine
check (Join a b) left grids = check_join a b (get_or grids 1 []) (get_or grids 0 [])
check (Filter column comparison operand) left grids = check_filter column operand (get_or grids 0 [])
check (Keep mask) left grids = fine
check (Apply column transform) left grids = check_apply column transform (get_or grids 0 [])
check (Group keys aggregate column) left grids = check_group keys column (get_or grids 0 [])
check (Noise column) left grids = check_noise column left (get_or grids 0 [])

-- the table that a step makes, from what is left of the supply and the stack
unfoldable pub make : Step → Supply → List Table → Table
make (Scan table) supply stack = scanned table supply.tables
make Union supply stack = united (second stack) (top stack)
make (Join left right) supply stack = joined left right (second stack) (top stack)
make (Filter column comparison operand) supply stack = filtered column comparison operand (top stack)
make (Keep mask) supply stack = kept mask (top stack)
make (Apply column transform) supply stack = applied column transform (top stack)
make (Group keys aggregate column) supply stack = grouped keys aggregate column (top stack)
make (Noise column) supply stack = with_noise column supply.draws (top stack)

-- the draws that a step uses up on a table of so many rows: "One draw is used per row"
abbrev pub draws_used : Step → ℕ → ℕ
draws_used step rows = cond (is_noise step) rows 0

-- "in row order over the whole plan": what is left for the steps after it
abbrev pub supply_after : Step → List Table → Supply → Supply
supply_after step stack supply = without_draws (draws_used step (length (top stack).rows)) supply

-- UNION and JOIN are the steps that take two tables
abbrev pub grows : Step → Bool
grows step = eqb (takes step) 2

-- "34: UNION or JOIN would make more than 256 rows, after 31. Row 256, column 0."
unfoldable pub too_many : Step → Table → Verdict
too_many step made = refuse_if (grows step && ltb 256 (length made.rows)) 34 256 0
