-- Document 01's sentences on comparisons, as theorems about the definitions beside this file. Each is proved; nothing here is to be believed.
use Rattle.std.specs.Prelude.{◌≡◌, true, false, ◌↔◌, ◌⊎◌, ℤ, ◌≤ℤ◌, ◌<ℤ◌}
use Rattle.value.specs.Range.{in_range}
use Rattle.comparison.specs.Comparison.{equal, unequal, less, at_most, greater, at_least, same}

-- "(0 to 5: =, ≠, <, ≤, >, ≥)": what each says of two values
pub record Compares (a b : ℤ) : Type 0 where
  pub equal : (equal a b ≡ true) ↔ (a ≡ b)
  pub unequal : (unequal a b ≡ true) ↔ ¬ (a ≡ b)
  pub less : (less a b ≡ true) ↔ (a <ℤ b)
  pub at_most : (at_most a b ≡ true) ↔ (a ≤ℤ b)
  pub greater : (greater a b ≡ true) ↔ (b <ℤ a)
  pub at_least : (at_least a b ≡ true) ↔ (b ≤ℤ a)

abbrev pub ComparisonsMean : Type 0
ComparisonsMean = (a b : ℤ) → in_range a ≡ true → in_range b ≡ true → Compares a b

-- "All six comparisons with OVER are false"
pub record AllFalse (a b : ℤ) : Type 0 where
  pub equal : equal a b ≡ false
  pub unequal : unequal a b ≡ false
  pub less : less a b ≡ false
  pub at_most : at_most a b ≡ false
  pub greater : greater a b ≡ false
  pub at_least : at_least a b ≡ false

abbrev pub OverIsFalse : Type 0
OverIsFalse = (a b : ℤ) → (in_range a ≡ false) ⊎ (in_range b ≡ false) → AllFalse a b

-- "OVER group keys are equal", and values are where they are one
pub record KeysMean (a b : ℤ) : Type 0 where
  pub values : in_range a ≡ true → in_range b ≡ true → (same a b ≡ true) ↔ (a ≡ b)
  pub overs : in_range a ≡ false → in_range b ≡ false → same a b ≡ true
  pub value-over : in_range a ≡ true → in_range b ≡ false → same a b ≡ false
  pub over-value : in_range a ≡ false → in_range b ≡ true → same a b ≡ false

abbrev pub SameMeans : Type 0
SameMeans = (a b : ℤ) → KeysMean a b
