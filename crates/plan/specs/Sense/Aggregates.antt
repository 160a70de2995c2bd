-- What GROUP's aggregates are of the values of a group. These are theorems about the definitions, each proved; nothing here is to be believed.
use Rattle.std.specs.Prelude.{◌<◌, ◌≡◌, true, ℤ, pos, length, ◌≤ℤ◌}
use mathlib.Core.List.{List, ◌∷◌, ◌++◌, Memᴰ}
use Rattle.aggregate.specs.Aggregate.{exact_sum}
use Rattle.rounding.specs.Sentences.{Nearest}
use Rattle.plan.specs.Group.{aggregate_value}
use Rattle.plan.specs.Table.{Each}
use Rattle.plan.specs.declared.Aggregate.{Aggregate}
use Rattle.plan.specs.declared.Aggregate.TheVariants.{Count, Sum, Min, Max, Avg}
use Rattle.value.specs.Range.{in_range, OVER}
use Rattle.value.specs.Sentences.{Settles}

-- "sum, min and max are of exact values; avg is the exact sum divided by the row count", by #105 "the nearest whole number, ties to the even one"
pub record Aggregated (values : List ℤ) : Type 0 where
  pub sum : Settles (exact_sum values) (aggregate_value Sum values)
  pub min-one : Memᴰ (aggregate_value Min values) values
  pub min-least : Each (λ v. aggregate_value Min values ≤ℤ v) values
  pub max-one : Memᴰ (aggregate_value Max values) values
  pub max-greatest : Each (λ v. v ≤ℤ aggregate_value Max values) values
  pub avg : Nearest (length values) (exact_sum values) (aggregate_value Avg values)

abbrev pub AggregatesExact : Type 0
AggregatesExact = (values : List ℤ) → 0 < length values → Each (λ v. in_range v ≡ true) values → Aggregated values

-- "count is the rows", with OVER or without: "any result with an OVER operand, count excepted"
abbrev pub CountIsRows : Type 0
CountIsRows = (values : List ℤ) → aggregate_value Count values ≡ pos (length values)

abbrev pub AggregatesOver : Type 0
AggregatesOver = (aggregate : Aggregate) (earlier later : List ℤ) → ¬ (aggregate ≡ Count) → aggregate_value aggregate (earlier ++ (OVER ∷ later)) ≡ OVER
