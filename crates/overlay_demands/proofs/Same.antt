-- Runs over the same tables are the same. Assumes nothing.
use Prim.Native.Nat.{ℕ}
use mathlib.Core.Path.{◌≡◌, ap}
use mathlib.Core.List.{List}
use lib.IntN.{ℤ}
use Rattle.demands.specs.Given.{Given, check_given}
use Rattle.demands.specs.Lent.{Lent}
use Rattle.demands.specs.Monitor.{evaluation, run_outcome, monitor}
use Rattle.floors.specs.Floors.{under_year}
use Rattle.input.specs.Verdict.{accepted}
use Rattle.layout.specs.Layout.{rule_year}
use Rattle.overlay_demands.specs.Overlays.{with}
use Rattle.overlays.specs.Overlays.{with_overlays}
use Rattle.container.specs.Contents.{plan_of, input_tables}
use Rattle.plan.specs.Evaluate.{evaluate}
use Rattle.plan.specs.Sheets.{InputTable, all_with_marks}
use Rattle.plan.specs.Supply.{supplied}

module _ (container : List ℕ) (draws : List ℤ) (overlays others : List (List ℕ))
    (e : with_overlays overlays (input_tables container) ≡ with_overlays others (input_tables container)) where
  abbrev a : Given
  a = with container draws overlays

  abbrev b : Given
  b = with container draws others

  pub same-evaluation : (year : ℕ) → evaluation year (with container draws overlays) ≡ evaluation year (with container draws others)
  unfolding evaluation
  same-evaluation year = ap (λ (tables : List InputTable). evaluate (plan_of container) (supplied (all_with_marks 0 (under_year year tables)) draws)) e

  pub same-run : check_given (with container draws overlays) ≡ accepted → check_given (with container draws others) ≡ accepted
      → (lent : Lent) → monitor (with container draws overlays) lent ≡ monitor (with container draws others) lent
  unfolding monitor run_outcome
  same-run ok too lent = rw (ok, too, same-evaluation (rule_year container))
