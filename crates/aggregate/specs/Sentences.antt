-- Document 01's sentences on aggregates, as theorems about the definitions beside this file. Each is proved; nothing here is to be believed.
use Rattle.std.specs.Prelude.{◌≡◌, true, false, List, ◌⊎◌, ◌<◌, ℤ, length, ◌≤ℤ◌}
use Rattle.value.specs.Range.{in_range, OVER}
use Rattle.aggregate.specs.Aggregate.{smaller, larger, exact_sum, all_in_range}
use Rattle.rounding.specs.Rounding.{average}
use Rattle.rounding.specs.Sentences.{Nearest}

-- "avg is the exact sum divided by the row count", by #105 rounded to "the nearest whole number, ties to the even one"
abbrev pub AverageIsNearest : Type 0
AverageIsNearest = (values : List ℤ) → all_in_range values ≡ true → 0 < length values
    → Nearest (length values) (exact_sum values) (average (exact_sum values) (length values))

-- the one of two values that is not above, or not below, the other; OVER with OVER
pub record Chosen (Before : ℤ → ℤ → Type 0) (choice : ℤ → ℤ → ℤ) : Type 0 where
  pub one : (a b : ℤ) → in_range a ≡ true → in_range b ≡ true → (choice a b ≡ a) ⊎ (choice a b ≡ b)
  pub left : (a b : ℤ) → in_range a ≡ true → in_range b ≡ true → Before (choice a b) a
  pub right : (a b : ℤ) → in_range a ≡ true → in_range b ≡ true → Before (choice a b) b
  pub over-left : (a b : ℤ) → in_range a ≡ false → choice a b ≡ OVER
  pub over-right : (a b : ℤ) → in_range b ≡ false → choice a b ≡ OVER

-- "min and max are of exact values": two at a time
abbrev pub SmallerIsLeast : Type 0
SmallerIsLeast = Chosen (λ a b. a ≤ℤ b) smaller

abbrev pub LargerIsGreatest : Type 0
LargerIsGreatest = Chosen (λ a b. b ≤ℤ a) larger
