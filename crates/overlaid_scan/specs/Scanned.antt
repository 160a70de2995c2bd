-- A step's table in work memory, and then the overlays composed onto the labels of a table that SCAN has pushed, and these read under a rule year. This is
-- proved.
use Rattle.std.specs.Prelude.{ℕ, ◌-◌, ◌≤◌, ◌<◌, ◌≡◌, List, ℤ, length, Result}
use Rattle.cells.specs.promises.Work.{Memory, memory_of, mark_room, AllKept}
use Rattle.container.specs.Contents.{input_tables, tables_of}
use Rattle.floors.specs.Floors.{under_year}
use Rattle.input.specs.Verdict.{accepted}
use Rattle.layout.specs.Layout.{part_count}
use Rattle.live_tables.specs.declared.Stack.{Stack}
use Rattle.memory.specs.declared.StepError.{StepError}
use Rattle.memory.specs.promises.Steps.{TableMade, stack_after}
use Rattle.overlaying.specs.promises.Overlaying.{after_step}
use Rattle.overlays.specs.Overlays.{check_all, with_overlays}
use Rattle.plan.specs.Sheets.{all_with_marks}
use Rattle.plan.specs.Supply.{supplied}
use Rattle.plan.specs.declared.Step.{Step}
use Rattle.plan.specs.declared.Step.TheVariants.{Scan, Union, Join, Filter, Keep, Apply, Group, Noise}

-- work memory with the overlays and the floor on the labels of the table that a step has pushed
abbrev pub overlaid_memory : ℕ → List (List ℕ) → Step → Stack → Memory → Memory
overlaid_memory year overlays step stack memory =
    memory_of memory.work.values (after_step year overlays step stack memory.work.labels) memory.marks

-- a SCAN names a table that there is
abbrev pub ScansThere : List ℕ → Step → Type 0
ScansThere container (Scan table) = table < part_count container - 1
ScansThere container Union = Unit
ScansThere container (Join left right) = Unit
ScansThere container (Filter column comparison operand) = Unit
ScansThere container (Keep mask) = Unit
ScansThere container (Apply column transform) = Unit
ScansThere container (Group keys aggregate column) = Unit
ScansThere container (Noise column) = Unit

-- what a step makes of the container's tables, becomes what it makes of the tables with overlays and under the year
abbrev pub MadeOverlaid : Type 0
MadeOverlaid = (year : ℕ) (container : List ℕ) (overlays : List (List ℕ)) → check_all container overlays ≡ accepted → (draws : List ℤ) (step : Step) → ScansThere container step
    → (before after : Memory) (stack : Stack) (done : Result Stack StepError) → mark_room ≤ length after.marks
    → TableMade step (supplied (tables_of container) draws) before stack done after
    → TableMade step (supplied (all_with_marks 0 (under_year year (with_overlays overlays (input_tables container)))) draws) before stack done (overlaid_memory year overlays step (stack_after stack done) after)
    × AllKept after (overlaid_memory year overlays step (stack_after stack done) after)
