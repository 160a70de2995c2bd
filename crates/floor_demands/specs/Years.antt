-- #108, of runs over containers that differ in their rule year alone.
use Rattle.std.specs.Prelude.{ℕ, ◌≡◌, List, set}
use Rattle.demands.specs.Answers.{released}
use Rattle.demands.specs.Given.{Given, check_given}
use Rattle.demands.specs.Lent.{Lent}
use Rattle.demands.specs.Monitor.{evaluation, monitor}
use Rattle.input.specs.Verdict.{accepted}
use Rattle.label_floor.specs.Floor.{floored}
use Rattle.plan.specs.Evaluate.{release}
use Rattle.plan.specs.Locked.{locked}
use Rattle.plan.specs.Table.{Table}
use Rattle.plan.specs.declared.Step.{Step}

-- the same with another rule year, the high byte of the part count
abbrev pub with_year : ℕ → Given → Given
with_year year given = record { container = set given.container 1 year; draws = given.draws; overlays = given.overlays }

-- the table that is released under a year is released under year 0
abbrev pub EarlierEvaluates : Type 0
EarlierEvaluates = (year : ℕ) (given : Given) → check_given given ≡ accepted
    → (table : Table) → (evaluation year given).outcome ≡ release table → (evaluation 0 given).outcome ≡ release table

-- and what a run releases, the run with year 0 in the same container releases: the same rows and the same text
abbrev pub EarlierReleases : Type 0
EarlierReleases = (given : Given) (lent : Lent) (rows columns bytes : ℕ) → (monitor given lent).answer ≡ released rows columns bytes
    → ((monitor (with_year 0 given) lent).answer ≡ released rows columns bytes)
    × ((monitor (with_year 0 given) lent).left.output ≡ (monitor given lent).left.output)
    × ((monitor (with_year 0 given) lent).left.text ≡ (monitor given lent).left.text)

-- the floor locks nothing and frees nothing: locked knows no year
abbrev pub LockedUnderYears : Type 0
LockedUnderYears = (plan : List Step) (year label : ℕ) → locked plan (floored year label) ≡ locked plan label
