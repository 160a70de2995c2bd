-- What an accepted container holds. Each of these is proved.
use Rattle.std.specs.Prelude.{ℕ, suc, ◌+◌, ◌-◌, ◌*◌, ◌≤◌, ◌<◌, ◌≡◌, Bool, true, false, not, List, [], ◌∷◌, map, eqb, length, get_or, drop, Some}
use Rattle.container.specs.Check.{accepted, check_input}
use Rattle.container.specs.Contents.{plan_of, input_tables, tables_of}
use Rattle.operations.specs.promises.Operations.{operation_fits}
use Rattle.label_words.specs.WellFormed.{well_formed}
use Rattle.layout.specs.Layout.{part_count, part_of}
use Rattle.plan.specs.Sense.{Small}
use Rattle.plan.specs.Sheets.{InputTable, with_marks}
use Rattle.plan.specs.Table.{Each, Shaped, Table, no_table, blank, clear}
use Rattle.plan.specs.Steps.{takes}
use Rattle.plan.specs.Widths.{enough_tables, placed, made_columns}
use Rattle.plan.specs.declared.Step.{Step}
use Rattle.plan.specs.declared.Step.TheVariants.{Scan, Union, Join, Filter, Keep, Apply, Group, Noise}
use Rattle.plan_part.specs.PlanPart.{step_count}
use Rattle.plan_part.specs.promises.Steps.{step_at}
use Rattle.table_part.specs.TablePart.{columns_of, sheets_of, row_count, cell_count, header_fits, table_of}
use Rattle.value.specs.Pattern.{negative}
use Rattle.value.specs.Range.{in_range}

-- 1 to 8 tables
abbrev pub TablesCounted : Type 0
TablesCounted = (bytes : List ℕ) → check_input bytes ≡ accepted
    → (2 ≤ part_count bytes) × (part_count bytes ≤ 9) × (length (tables_of bytes) ≡ part_count bytes - 1)

-- table t is part t + 1, its header fits, and byte 1 names no column past the last
abbrev pub TablesFound : Type 0
TablesFound = (bytes : List ℕ) → check_input bytes ≡ accepted → (t : ℕ) → t < part_count bytes - 1
    → (header_fits (part_of bytes (t + 1)) ≡ true) × (sheets_of (part_of bytes (t + 1)) ≤ columns_of (part_of bytes (t + 1)))
    × (get_or (tables_of bytes) t no_table ≡ with_marks t (table_of (part_of bytes (t + 1))))

-- a header that fits: 1 to 8 columns, at most 256 rows, and as many bytes as the cells need
abbrev pub HeaderMeans : Type 0
HeaderMeans = (part : List ℕ) → header_fits part ≡ true
    → (1 ≤ columns_of part) × (columns_of part ≤ 8) × (row_count part ≤ 256) × (length part ≡ 4 + 12 * cell_count part)
    × ((table : ℕ) → length (with_marks table (table_of part)).rows ≡ row_count part)

-- every cell's value is in range and its label well-formed
abbrev pub Sound : Table → Type 0
Sound table = Each (λ row. Each (λ cell. (in_range cell.value ≡ true) × (well_formed cell.label ≡ true)) row.cells) table.rows

abbrev pub TablesSound : Type 0
TablesSound = (bytes : List ℕ) → check_input bytes ≡ accepted
    → Each Shaped (tables_of bytes) × Each Small (tables_of bytes)
    × Each (λ table. (1 ≤ table.columns) × (table.columns ≤ 8)) (tables_of bytes) × Each Sound (tables_of bytes)

-- the same of the labels before the rows have their marks
abbrev pub TablesFormed : Type 0
TablesFormed = (bytes : List ℕ) → check_input bytes ≡ accepted → Each (λ table. Each (λ cell. well_formed cell.label ≡ true) table.cells) (input_tables bytes)

-- byte 1 is zero, or one more than a column whose cells are clear and not negative
pub record SheetsSound (input : InputTable) : Type 0 where
  pub within : input.sheets ≤ input.columns
  pub whole : length input.cells ≡ input.rows * input.columns
  pub clear-cells : (column : ℕ) → input.sheets ≡ suc column → (row : ℕ) → row < input.rows
      → (clear (get_or input.cells (row * input.columns + column) blank).label ≡ true)
      × (negative (get_or input.cells (row * input.columns + column) blank).value ≡ false)

abbrev pub TablesSheets : Type 0
TablesSheets = (bytes : List ℕ) → check_input bytes ≡ accepted → Each SheetsSound (input_tables bytes)

-- 1 to 64 steps, and each record has its step
abbrev pub StepsCounted : Type 0
StepsCounted = (bytes : List ℕ) → check_input bytes ≡ accepted
    → (1 ≤ step_count (part_of bytes 0)) × (step_count (part_of bytes 0) ≤ 64) × (length (plan_of bytes) ≡ step_count (part_of bytes 0))

abbrev pub StepsFound : Type 0
StepsFound = (bytes : List ℕ) → check_input bytes ≡ accepted → (k : ℕ) → k < step_count (part_of bytes 0)
    → step_at (part_of bytes 0) k ≡ Some (get_or (plan_of bytes) k Union)

-- along a plan the stack holds at most three tables, each step has its tables and its columns there, and one table is left
abbrev pub Placed : List ℕ → List ℕ → List Step → Type 0
Placed tables stack [] = length stack ≡ 1
Placed tables stack (step ∷ later) =
    (length stack ≤ 3) × (enough_tables step (length stack) ≡ true) × (placed step tables stack ≡ true)
    × Placed tables (made_columns step tables stack ∷ drop (takes step) stack) later

abbrev pub PlanPlaced : Type 0
PlanPlaced = (bytes : List ℕ) → check_input bytes ≡ accepted → Placed (map (λ table. table.columns) (tables_of bytes)) [] (plan_of bytes)

-- APPLY's operation exists: a cut takes off 1 to 6 digits; and KEEP keeps some column
abbrev pub operation_exists : Step → Bool
operation_exists (Scan table) = true
operation_exists Union = true
operation_exists (Join left right) = true
operation_exists (Filter column comparison operand) = true
operation_exists (Keep mask) = not (eqb mask 0)
operation_exists (Apply column transform) = operation_fits transform
operation_exists (Group keys aggregate column) = true
operation_exists (Noise column) = true

abbrev pub OperationsExist : Type 0
OperationsExist = (bytes : List ℕ) → check_input bytes ≡ accepted → Each (λ step. operation_exists step ≡ true) (plan_of bytes)
