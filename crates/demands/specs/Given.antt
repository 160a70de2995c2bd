-- What a run is given to read: a container, the draws (#102), and the overlays (#106).
use Rattle.std.specs.Prelude.{ℕ, List, [], ◌∷◌, ℤ}
use Rattle.floors.specs.Floors.{under_year}
use Rattle.input.specs.Verdict.{InputVerdict}
use Rattle.layout.specs.Layout.{rule_year}
use Rattle.container.specs.Contents.{plan_of, input_tables}
use Rattle.overlays.specs.Overlays.{check_all, with_overlays}
use Rattle.plan.specs.Sheets.{InputTable, all_with_marks}
use Rattle.plan.specs.Supply.{Supply, supplied}
use Rattle.plan.specs.Table.{Table}
use Rattle.plan.specs.declared.Step.{Step}

pub record Given : Type 0 where
  pub container : List ℕ
  pub draws : List ℤ
  pub overlays : List (List ℕ)

-- "Up to four overlays": four slices, of which any may be empty
abbrev pub given : List ℕ → List ℤ → List ℕ → List ℕ → List ℕ → List ℕ → Given
given container draws overlay₀ overlay₁ overlay₂ overlay₃ = record {
  container = container;
  draws = draws;
  overlays = overlay₀ ∷ overlay₁ ∷ overlay₂ ∷ overlay₃ ∷ [];
}

-- the input checks; draws have none
abbrev pub check_given : Given → InputVerdict
check_given given = check_all given.container given.overlays

-- the plan, and the rule year (#108)
abbrev pub plan_given : Given → List Step
plan_given given = plan_of given.container

abbrev pub year_given : Given → ℕ
year_given given = rule_year given.container

-- the tables that the plan is evaluated over under a rule year: the container's with the overlays composed onto their labels, "before step 0" (#106), these
-- labels as the year reads them, "after overlays are composed" (#108), and the tables with the marks of their rows (#103)
abbrev pub tables_given : ℕ → Given → List InputTable
tables_given year given = under_year year (with_overlays given.overlays (input_tables given.container))

abbrev pub prepared : ℕ → Given → List Table
prepared year given = all_with_marks 0 (tables_given year given)

-- these tables and the draws
abbrev pub supply_given : ℕ → Given → Supply
supply_given year given = supplied (prepared year given) given.draws
