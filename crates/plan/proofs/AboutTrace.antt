-- The trace's lines and their figures. Assumes nothing.
use Prim.Native.Nat.{ℕ, suc, ◌+◌}
use mathlib.Core.Path.{◌≡◌, refl, ap₂}
use mathlib.Core.List.{List, [], ◌∷◌, ◌++◌, map}
use native.Mathlib.Omega.{arith}
use lib.ListN.{length, drop}
use Rattle.label_words.specs.Stages.{stage_count}
use Rattle.plan.specs.Evaluate.{Result, ending, behind, evaluate_from, evaluate}
use Rattle.plan.specs.Sense.Trace.{total, stages_present, Figures, stack_left, supply_left, TraceLines}
use Rattle.plan.specs.Steps.{takes, check, make, too_many, supply_after}
use Rattle.plan.specs.Supply.{Supply}
use Rattle.plan.specs.Table.{Cell, Row, Table, labels_of, grid}
use Rattle.plan.specs.Trace.{Line, stages_in, stages_left, line_of}
use Rattle.plan.specs.Verdict.{Verdict, fine, refused}
use Rattle.plan.specs.declared.Step.{Step}

-- ---- figures

cells-total : (cells : List Cell) → stages_in (map (λ cell. cell.label) cells) ≡ total (λ cell. stages_present cell.label) cells
unfolding stage_count
cells-total [] = refl
cells-total (cell ∷ rest) = ap₂ ◌+◌ refl (cells-total rest)

rows-total : (rows : List Row) → stages_left (map labels_of rows) ≡ total (λ row. total (λ cell. stages_present cell.label) row.cells) rows
rows-total [] = refl
rows-total (row ∷ rest) = ap₂ ◌+◌ (cells-total row.cells) (rows-total rest)

figures : (step : Step) (made : Table) → Figures step made (line_of step made)
unfolding line_of
figures step made = record { kind = refl; rows = refl; columns = refl; stages = rows-total made.rows }

-- ---- lines

no_line : {line : Line} {lines : List Line} → [] ≡ line ∷ lines → ⊥
no_line e = let z : ◌≡◌ {A = ℕ} 0 1 = cc in omega arith

-- an evaluation with a line went on, and that is the line
went_on : (v w : Verdict) (number : ℕ) (first : Line) (later : Result) (line : Line) (lines : List Line)
    → (ending v number (ending w number (behind first later))).trace ≡ line ∷ lines → (line ≡ first) × (later.trace ≡ lines)
went_on fine fine number first later line lines e = (cc, cc)
went_on fine (refused n row column) number first later line lines e = absurd (no_line e)
went_on (refused n row column) w number first later line lines e = absurd (no_line e)

stepped : (supply : Supply) (number : ℕ) (stack : List Table) (step : Step) (later : List Step) (line : Line) (lines : List Line)
    → (evaluate_from supply number stack (step ∷ later)).trace ≡ line ∷ lines
    → (line ≡ line_of step (make step supply stack))
    × ((evaluate_from (supply_after step stack supply) (suc number) (make step supply stack ∷ drop (takes step) stack) later).trace ≡ lines)
unfolding evaluate_from
stepped supply number stack step later line lines e =
    went_on (check step (length supply.draws) (map grid stack)) (too_many step (make step supply stack)) number (line_of step (make step supply stack))
    (evaluate_from (supply_after step stack supply) (suc number) (make step supply stack ∷ drop (takes step) stack) later) line lines e

lines_from : (supply : Supply) (number : ℕ) (stack : List Table) (earlier : List Step) (step : Step) (later : List Step) (lines : List Line) (line : Line) (rest : List Line)
    → (evaluate_from supply number stack (earlier ++ (step ∷ later))).trace ≡ lines ++ (line ∷ rest) → length lines ≡ length earlier
    → Figures step (make step (supply_left supply stack earlier) (stack_left supply stack earlier)) line
lines_from supply number stack [] step later [] line rest e l = rw (stepped supply number stack step later line rest e).0 (figures step (make step supply stack))
lines_from supply number stack [] step later (first ∷ lines) line rest e l = absurd (omega arith)
lines_from supply number stack (next ∷ earlier) step later [] line rest e l = absurd (omega arith)
lines_from supply number stack (next ∷ earlier) step later (first ∷ lines) line rest e l =
    lines_from (supply_after next stack supply) (suc number) (make next supply stack ∷ drop (takes next) stack) earlier step later lines line rest
    (stepped supply number stack next _ first _ e).1 (omega arith)

pub trace-lines : TraceLines
unfolding evaluate
trace-lines supply earlier step later lines line rest e l = lines_from supply 0 [] earlier step later lines line rest e l
