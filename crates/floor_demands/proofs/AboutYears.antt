-- What is released under a rule year is released under year 0. Assumes nothing.
use Prim.Native.Nat.{ℕ}
use mathlib.Core.Path.{◌≡◌, refl, sym, ap, ap₂, ◌∙◌}
use mathlib.Core.List.{List}
use lib.ListN.{length}
use Rattle.container.specs.Check.{check_input}
use Rattle.demands.specs.Given.{Given, check_given, plan_given, year_given, supply_given}
use Rattle.demands.specs.Lent.{Lent}
use Rattle.demands.specs.Monitor.{evaluation, with_text, run_outcome, Begun}
use Rattle.demands.proofs.AccuracyProof.{release-means}
use Rattle.demands.proofs.Runs.{begun-run}
use Rattle.floors.specs.Floors.{under_year}
use Rattle.input.specs.Verdict.{accepted}
use Rattle.overlaid.proofs.Overlaid.{container-accepted, earlier-less-strict}
use Rattle.overlays.specs.Overlays.{with_overlays}
use Rattle.plan.specs.Evaluate.{Outcome, Result, release, evaluate}
use Rattle.plan.specs.Sheets.{InputTable, all_with_marks}
use Rattle.plan.specs.Supply.{supplied}
use Rattle.plan.specs.Table.{Table}
use Rattle.plan.specs.declared.Step.{Step}
use Rattle.strictness.proofs.AboutStrictness.{less-strict-releases}
use Rattle.floor_demands.specs.Years.{with_year, EarlierEvaluates, EarlierReleases}
use Rattle.floor_demands.proofs.InYearZero.{year-zero, same-plan, same_inputs, accepted-too}

pub earlier-evaluates : EarlierEvaluates
unfolding evaluation
earlier-evaluates year given ok table o =
    less-strict-releases (plan_given given) (supply_given 0 given) (supply_given year given)
    (record { tables = earlier-less-strict year given.container given.overlays ok; draws = refl }) table o

module _ (given : Given) (ok : check_given given ≡ accepted) where
  checks : check_input given.container ≡ accepted
  checks = container-accepted given.container given.overlays ok

  -- the same plan over the same tables
  same-evaluation : evaluation 0 (with_year 0 given) ≡ evaluation 0 given
  unfolding evaluation
  same-evaluation =
      ap₂ (λ (plan : List Step) (tables : List InputTable). evaluate plan (supplied (all_with_marks 0 (under_year 0 (with_overlays given.overlays tables))) given.draws))
      (same-plan given.container checks) (same_inputs given.container checks)

  same_outcome : (year : ℕ) (lent : Lent) (table : Table) → (evaluation year given).outcome ≡ release table → run_outcome 0 (with_year 0 given) lent ≡ run_outcome year given lent
  unfolding run_outcome
  same_outcome year lent table o =
      ap₂ (λ (plan : List Step) (outcome : Outcome). with_text (length plan) (length lent.text) outcome) (same-plan given.container checks)
      (ap (λ (r : Result). r.outcome) same-evaluation ∙ earlier-evaluates year given ok table o ∙ sym o)

pub earlier-releases : EarlierReleases
earlier-releases given lent rows columns bytes e =
    let year = year_given given in
    let r = release-means year given lent rows columns bytes refl e in
    let ok = r.begun.accepted-is in
    let begun : Begun 0 (with_year 0 given) lent = record {
      long = r.begun.long;
      accepted-is = accepted-too given.container given.overlays ok;
      year-is = year-zero given.container (checks given ok);
    } in
    let run = begun-run year given lent r.begun in
    rw (begun-run 0 (with_year 0 given) lent begun, run, same_outcome given ok year lent r.table r.outcome) (rw run at e, refl, refl)
