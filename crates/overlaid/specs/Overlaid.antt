-- What the tables of an accepted container hold when accepted overlays are composed onto their labels, and these are read under a rule year. Each of these
-- is proved, of every year.
use Rattle.std.specs.Prelude.{ℕ, ◌≡◌, true, List, []}
use Rattle.accepted.specs.Accepted.{SheetsSound}
use Rattle.container.specs.Contents.{input_tables, tables_of}
use Rattle.floors.specs.Floors.{under_year}
use Rattle.input.specs.Verdict.{accepted}
use Rattle.label_words.specs.WellFormed.{well_formed}
use Rattle.overlays.specs.Overlays.{check_all, with_overlays}
use Rattle.plan.specs.Secrecy.{Pairwise}
use Rattle.plan.specs.Sheets.{InputTable, all_with_marks}
use Rattle.plan.specs.Table.{Each}
use Rattle.strictness.specs.Strictness.{StricterTables}

-- the tables with these overlays under this year
abbrev pub under : ℕ → List ℕ → List (List ℕ) → List InputTable
under year container overlays = under_year year (with_overlays overlays (input_tables container))

-- the same shapes, marks and values, under labels that are at least as strict: as the container's
abbrev pub OverlaysStricter : Type 0
OverlaysStricter = (year : ℕ) (container : List ℕ) (overlays : List (List ℕ)) → check_all container overlays ≡ accepted
    → Pairwise StricterTables (tables_of container) (all_with_marks 0 (under year container overlays))

-- as those without overlays under the same year
abbrev pub WithoutLessStrict : Type 0
WithoutLessStrict = (year : ℕ) (container : List ℕ) (overlays : List (List ℕ)) → check_all container overlays ≡ accepted
    → Pairwise StricterTables (all_with_marks 0 (under year container [])) (all_with_marks 0 (under year container overlays))

-- as those with the same overlays under year 0
abbrev pub EarlierLessStrict : Type 0
EarlierLessStrict = (year : ℕ) (container : List ℕ) (overlays : List (List ℕ)) → check_all container overlays ≡ accepted
    → Pairwise StricterTables (all_with_marks 0 (under 0 container overlays)) (all_with_marks 0 (under year container overlays))

-- each of these labels is well-formed
abbrev pub OverlaysFormed : Type 0
OverlaysFormed = (year : ℕ) (container : List ℕ) (overlays : List (List ℕ)) → check_all container overlays ≡ accepted
    → Each (λ table. Each (λ cell. well_formed cell.label ≡ true) table.cells) (under year container overlays)

-- #106: "A sheet column takes only zero labels, so sheet cells stay clear."
abbrev pub OverlaysSheets : Type 0
OverlaysSheets = (year : ℕ) (container : List ℕ) (overlays : List (List ℕ)) → check_all container overlays ≡ accepted
    → Each SheetsSound (under year container overlays)
