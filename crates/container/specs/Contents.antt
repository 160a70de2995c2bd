-- What an accepted container holds: its plan and its tables.
use Rattle.std.specs.Prelude.{ℕ, zero, suc, ◌-◌, List, [], ◌∷◌, Option, Some, None}
use Rattle.layout.specs.Layout.{part_count, part_of}
use Rattle.plan.specs.Sheets.{InputTable, all_with_marks}
use Rattle.plan.specs.Table.{Table}
use Rattle.plan.specs.declared.Step.{Step}
use Rattle.plan_part.specs.PlanPart.{step_count}
use Rattle.records.specs.Record.{fields_at, step_of}
use Rattle.table_part.specs.TablePart.{table_of}

-- a record without a step adds none
abbrev pub put : Option Step → List Step → List Step
put (Some step) later = step ∷ later
put None later = later

abbrev pub steps_from : List ℕ → ℕ → ℕ → List Step
steps_from part step zero = []
steps_from part step (suc more) = put (step_of (fields_at part step)) (steps_from part (suc step) more)

unfoldable pub plan_of : List ℕ → List Step
plan_of bytes = steps_from (part_of bytes 0) 0 (step_count (part_of bytes 0))

abbrev pub tables_from : List ℕ → ℕ → ℕ → List InputTable
tables_from bytes part zero = []
tables_from bytes part (suc more) = table_of (part_of bytes part) ∷ tables_from bytes (suc part) more

unfoldable pub input_tables : List ℕ → List InputTable
input_tables bytes = tables_from bytes 1 (part_count bytes - 1)

-- the tables with the marks of their rows
unfoldable pub tables_of : List ℕ → List Table
tables_of bytes = all_with_marks 0 (input_tables bytes)
