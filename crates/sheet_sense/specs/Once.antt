-- Where sheets are rows. These are theorems about the definitions, each proved; nothing here is to be believed.
use Rattle.std.specs.Prelude.{ℕ, ◌≤◌, ◌≡◌, List, [], ℤ}
use Rattle.plan.specs.Group.{groups_after}
use Rattle.plan.specs.Sense.Groups.{EachTwo}
use Rattle.plan.specs.Sense.Trace.{stack_left}
use Rattle.plan.specs.Sheets.{InputTable, all_with_marks}
use Rattle.plan.specs.Supply.{supplied}
use Rattle.plan.specs.Table.{Each, top}
use Rattle.plan.specs.declared.Step.{Step}
use Rattle.plan.specs.declared.Step.TheVariants.{Scan, Join}
use Rattle.sheet_sense.specs.Counted.{SheetForEach}

-- a table with byte 1 zero, of at most 256 rows
abbrev pub NoSheetColumn : InputTable → Type 0
NoSheetColumn input = (input.sheets ≡ 0) × (input.rows ≤ 256)

-- no step is a JOIN
abbrev pub NoJoin : List Step → Type 0
NoJoin steps = Each (λ step. (left right : ℕ) → ¬ (step ≡ Join left right)) steps

-- no two steps scan one table
abbrev pub ScansOnce : List Step → Type 0
ScansOnce steps = EachTwo (λ step other. (table : ℕ) → step ≡ Scan table → ¬ (other ≡ Scan table)) steps

-- "for byte 1 zero, a mark shared with no other table row": where each table has byte 1 zero, is scanned at most once and is not
-- joined, a group has as many sheets as rows. The groups are those of a GROUP with these keys that comes after the steps.
abbrev pub SheetsAreRows : Type 0
SheetsAreRows = (inputs : List InputTable) (draws : List ℤ) (earlier : List Step) (keys : ℕ)
    → Each NoSheetColumn inputs → NoJoin earlier → ScansOnce earlier
    → let table = top (stack_left (supplied (all_with_marks 0 inputs) draws) [] earlier) in
    Each SheetForEach (groups_after keys table.columns [] table.rows)
