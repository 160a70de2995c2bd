-- The evaluation of a plan: "from step 0 to its release or its refusal because of the state, with the trace lines of its finished steps".
use Rattle.std.specs.Prelude.{ℕ, suc, true, not, List, [], ◌∷◌, map, length, drop}
use Rattle.plan.specs.Steps.{takes, check, make, too_many, supply_after}
use Rattle.plan.specs.Supply.{Supply}
use Rattle.plan.specs.Table.{Cell, Row, Table, grid, top}
use Rattle.plan.specs.Trace.{Line, line_of}
use Rattle.plan.specs.Verdict.{Verdict, fine, refused, or_else, refuse_if, not_clear}
use Rattle.plan.specs.declared.Step.{Step}
use Rattle.value.specs.Range.{in_range}

pub data Outcome : Type 0 where
  release : Table → Outcome
  refuse : ℕ → ℕ → ℕ → ℕ → Outcome  -- a number; a step, a row and a column

pub record Result : Type 0 where
  pub outcome : Outcome
  pub trace : List Line

-- the first OVER cell, row by row and left to right
abbrev pub over_in : ℕ → ℕ → List Cell → Verdict
over_in row column [] = fine
over_in row column (cell ∷ rest) = or_else (refuse_if (not (in_range cell.value)) 36 row column) (over_in row (suc column) rest)

abbrev pub first_over : ℕ → List Row → Verdict
first_over row [] = fine
first_over row (next ∷ rest) = or_else (over_in row 0 next.cells) (first_over (suc row) rest)

-- "35: at release a cell has a stage left. 36: no 35, but a cell is OVER."
unfoldable pub check_release : Table → Verdict
check_release table = or_else (not_clear (λ column. true) 35 0 (grid table)) (first_over 0 table.rows)

-- a refusal ends the evaluation at the step; else it goes on
abbrev pub ending : Verdict → ℕ → Result → Result
ending fine step onward = onward
ending (refused number row column) step onward = record { outcome = refuse number step row column; trace = [] }

-- a finished step's line comes before those of the steps after it
abbrev pub behind : Line → Result → Result
behind line later = record { outcome = later.outcome; trace = line ∷ later.trace }

-- the evaluation from step number `step` on: "The last table is released if every cell is clear and none is OVER."
unfoldable pub evaluate_from : Supply → ℕ → List Table → List Step → Result
evaluate_from supply step stack [] = ending (check_release (top stack)) step (record { outcome = release (top stack); trace = [] })
evaluate_from supply step stack (next ∷ later) =
    let made = make next supply stack in
    let onward = behind (line_of next made) (evaluate_from (supply_after next stack supply) (suc step) (made ∷ drop (takes next) stack) later) in
    ending (check next (length supply.draws) (map grid stack)) step (ending (too_many next made) step onward)

unfoldable pub evaluate : List Step → Supply → Result
evaluate plan supply = evaluate_from supply 0 [] plan
