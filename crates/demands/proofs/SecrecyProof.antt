-- Demand 3 holds of the monitor. Assumes nothing.
use mathlib.Core.Path.{◌≡◌, ap, ◌∙◌}
use Rattle.plan.specs.Evaluate.{evaluate}
use Rattle.plan.proofs.SecrecyProof.{secrecy}
use Rattle.demands.specs.Given.{plan_given, supply_given}
use Rattle.demands.specs.Monitor.{evaluation, run_outcome}
use Rattle.demands.specs.Secrecy.{SecrecyOfRuns}
use Rattle.demands.proofs.AlikeSheets.{supplies-alike}
use Rattle.demands.proofs.Runs.{begun-run}

pub secrecy-of-runs : SecrecyOfRuns
unfolding evaluation run_outcome
secrecy-of-runs year a b in-a in_b alike lent long =
    let same : evaluation year a ≡ evaluation year b
    = secrecy (plan_given a) (supply_given year a) (supply_given year b) (supplies-alike year a b in-a alike) ∙ ap (λ p. evaluate p (supply_given year b)) alike.plans in
    rw (begun-run year a lent (record { long = long; accepted-is = in-a; year-is = alike.years.0 }), begun-run year b lent (record { long = long; accepted-is = in_b; year-is = alike.years.1 }), same, alike.plans)
