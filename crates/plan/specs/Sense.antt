-- What the definitions give if they say what is meant. These are theorems about the definitions, each proved; nothing here is to be believed. The
-- files below go on by theme.
use Rattle.std.specs.Prelude.{ℕ, ◌≤◌, ◌≡◌, true, false, List, [], ◌∷◌, map, length, take}
use Rattle.label_discharge.specs.Discharge.{allows_transform, allows_aggregate, allows_noise}
use Rattle.label_words.specs.Word.{has_h, has_t, has_a, has_n}
use Rattle.plan.specs.Apply.{applied_row}
use Rattle.plan.specs.Evaluate.{release, refuse, evaluate}
use Rattle.plan.specs.Locked.{locked}
use Rattle.plan.specs.Numbers.{transform_code, digits_taken, aggregate_code}
use Rattle.plan.specs.Steps.{make, too_many}
use Rattle.plan.specs.Supply.{Supply}
use Rattle.plan.specs.Table.{Row, Table, Each, Shaped}
use Rattle.plan.specs.Verdict.{fine}
use Rattle.plan.specs.Widths.{columns_exist, made_columns}
use Rattle.plan.specs.declared.Aggregate.{Aggregate}
use Rattle.plan.specs.declared.Step.{Step}
use Rattle.plan.specs.declared.Step.TheVariants.{Apply, Group, Noise}
use Rattle.plan.specs.declared.Transform.{Transform}
use Rattle.value.specs.Range.{in_range}
pub mod Rows
pub mod Groups
pub mod Refusals
pub mod Trace
pub mod Ending
pub mod Labels
pub mod Aggregates
pub mod Draws

-- every cell of a released table is clear and in range
abbrev pub ReleasedClear : Type 0
ReleasedClear = (plan : List Step) (supply : Supply) (table : Table) → (evaluate plan supply).outcome ≡ release table
    → Each (λ row. Each (λ cell. (cell.label ≡ 0) × (in_range cell.value ≡ true)) row.cells) table.rows

-- the evaluation refuses with no number but 31 to 37
abbrev pub RefusalNumbers : Type 0
RefusalNumbers = (plan : List Step) (supply : Supply) (number step row column : ℕ) → (evaluate plan supply).outcome ≡ refuse number step row column
    → (31 ≤ number) × (number ≤ 37)

-- a step that finds its columns makes a table of such rows, with the columns that the plan's check counts
abbrev pub MadeShaped : Type 0
MadeShaped = (step : Step) (supply : Supply) (stack : List Table)
    → columns_exist step (map (λ table. table.columns) supply.tables) (map (λ table. table.columns) stack) ≡ true
    → Each Shaped supply.tables → Each Shaped stack
    → Shaped (make step supply stack)
    × ((make step supply stack).columns ≡ made_columns step (map (λ table. table.columns) supply.tables) (map (λ table. table.columns) stack))

-- and at most 256 rows, after 34
abbrev pub Small : Table → Type 0
Small table = length table.rows ≤ 256

abbrev pub MadeSmall : Type 0
MadeSmall = (step : Step) (supply : Supply) (stack : List Table) → Each Small supply.tables → Each Small stack
    → too_many step (make step supply stack) ≡ fine → Small (make step supply stack)

-- APPLY leaves the cells that it reads as they are: a row made begins with the row read
abbrev pub ApplyKeeps : Type 0
ApplyKeeps = (column : ℕ) (transform : Transform) (row : Row) → take (length row.cells) (applied_row column transform row).cells ≡ row.cells

-- "no APPLY has an allowed operation (cut: enough digits)" and "no GROUP has an allowed aggregate", denied
pub data SomeApply (label : ℕ) : List Step → Type 0 where
  applies : {column : ℕ} {transform : Transform} {rest : List Step} → allows_transform label (transform_code transform) (digits_taken transform) ≡ true
      → SomeApply label (Apply column transform ∷ rest)
  later : {step : Step} {rest : List Step} → SomeApply label rest → SomeApply label (step ∷ rest)

pub data SomeGroup (label : ℕ) : List Step → Type 0 where
  groups : {keys column : ℕ} {aggregate : Aggregate} {rest : List Step} → allows_aggregate label (aggregate_code aggregate) ≡ true
      → SomeGroup label (Group keys aggregate column ∷ rest)
  later : {step : Step} {rest : List Step} → SomeGroup label rest → SomeGroup label (step ∷ rest)

pub data SomeNoise : List Step → Type 0 where
  noise : {column : ℕ} {rest : List Step} → SomeNoise (Noise column ∷ rest)
  later : {step : Step} {rest : List Step} → SomeNoise rest → SomeNoise (step ∷ rest)

-- a label that is not locked has no H, has T only where the plan can discharge it, and A and N likewise
abbrev pub UnlockedMeans : Type 0
UnlockedMeans = (plan : List Step) (label : ℕ) → locked plan label ≡ false
    → (has_h label ≡ false) × (has_t label ≡ true → SomeApply label plan) × (has_a label ≡ true → SomeGroup label plan)
    × (has_n label ≡ true → (allows_noise label ≡ true) × SomeNoise plan)
