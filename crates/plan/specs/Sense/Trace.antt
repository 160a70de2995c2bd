-- What the lines of the trace say. These are theorems about the definitions, each proved; nothing here is to be believed.
use Rattle.std.specs.Prelude.{ℕ, ◌+◌, ◌≡◌, List, [], ◌∷◌, ◌++◌, length, drop}
use Rattle.label_words.specs.Stages.{one}
use Rattle.label_words.specs.Word.{has_h, has_t, has_a, has_n}
use Rattle.plan.specs.Evaluate.{evaluate}
use Rattle.plan.specs.Numbers.{kind_of}
use Rattle.plan.specs.Steps.{takes, make, supply_after}
use Rattle.plan.specs.Supply.{Supply}
use Rattle.plan.specs.Table.{Table}
use Rattle.plan.specs.Trace.{Line}
use Rattle.plan.specs.declared.Step.{Step}

-- a number of each element, summed
abbrev pub total : {A : Type 0} → (A → ℕ) → List A → ℕ
total number [] = 0
total number (x ∷ xs) = number x + total number xs

-- the stages present, 0 to 4
abbrev pub stages_present : ℕ → ℕ
stages_present label = one (has_h label) + one (has_t label) + one (has_a label) + one (has_n label)

-- "kind, rows, columns, and stages left, the sum of present stages over all cells of the table made"
pub record Figures (step : Step) (made : Table) (line : Line) : Type 0 where
  pub kind : line.kind ≡ kind_of step
  pub rows : line.rows ≡ length made.rows
  pub columns : line.columns ≡ made.columns
  pub stages : line.stages ≡ total (λ row. total (λ cell. stages_present cell.label) row.cells) made.rows

-- the stack that steps leave, and what they leave of the supply
abbrev pub stack_left : Supply → List Table → List Step → List Table
stack_left supply stack [] = stack
stack_left supply stack (step ∷ later) = stack_left (supply_after step stack supply) (make step supply stack ∷ drop (takes step) stack) later

abbrev pub supply_left : Supply → List Table → List Step → Supply
supply_left supply stack [] = supply
supply_left supply stack (step ∷ later) = supply_left (supply_after step stack supply) (make step supply stack ∷ drop (takes step) stack) later

-- a line with as many lines before it as a step has steps has the figures of the table that the step makes on the stack that those leave
abbrev pub TraceLines : Type 0
TraceLines = (supply : Supply) (earlier : List Step) (step : Step) (later : List Step) (lines : List Line) (line : Line) (rest : List Line)
    → (evaluate (earlier ++ (step ∷ later)) supply).trace ≡ lines ++ (line ∷ rest) → length lines ≡ length earlier
    → Figures step (make step (supply_left supply [] earlier) (stack_left supply [] earlier)) line
