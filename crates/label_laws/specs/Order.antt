-- An order on labels. The propositions below it are theorems, each proved: they tie the order to the label rules.
use Rattle.std.specs.Prelude.{ℕ, ◌+◌, ◌≤◌, ◌<◌, ◌≡◌, true, false}
use Rattle.label_composition.specs.Composition.{composed}
use Rattle.label_discharge.specs.Discharge.{allows_transform, discharges_a, allows_noise, forbids_t, forbids_a, forbids_n, after_t, after_a, after_n}
use Rattle.label_words.specs.WellFormed.{well_formed}
use Rattle.label_words.specs.Word.{bit_at, has_h, has_t, has_a, has_n, digits_of, minimum_of}

-- b is at least as strict as a: every stage of a is a stage of b, and in each stage of a, b allows no operation that a does not, has no smaller
-- group minimum and, where it still allows cut, no fewer digits.
pub record AsStrict (a b : ℕ) : Type 0 where
  pub H : has_h a ≡ true → has_h b ≡ true
  pub T : has_t a ≡ true → has_t b ≡ true
  pub A : has_a a ≡ true → has_a b ≡ true
  pub N : has_n a ≡ true → has_n b ≡ true
  pub transforms : has_t a ≡ true → (operation : ℕ) → operation < 4 → bit_at b (24 + operation) ≡ true → bit_at a (24 + operation) ≡ true
  pub digits : has_t a ≡ true → bit_at b 26 ≡ true → digits_of a ≤ digits_of b
  pub aggregates : has_a a ≡ true → (operation : ℕ) → operation < 5 → bit_at b (16 + operation) ≡ true → bit_at a (16 + operation) ≡ true
  pub minimum : has_a a ≡ true → minimum_of a ≤ minimum_of b
  pub noise : has_n a ≡ true → bit_at b 23 ≡ true → bit_at a 23 ≡ true

abbrev pub Reflexive : Type 0
Reflexive = (a : ℕ) → AsStrict a a

abbrev pub Transitive : Type 0
Transitive = (a b c : ℕ) → AsStrict a b → AsStrict b c → AsStrict a c

-- a clear label is the least strict
abbrev pub ClearBelow : Type 0
ClearBelow = (a : ℕ) → AsStrict 0 a

-- what discharges a stage of a label discharges that stage of one that is less strict
abbrev pub AllowsLess : Type 0
AllowsLess = (a b : ℕ) → AsStrict a b
    → (has_t a ≡ true → (operation digits : ℕ) → operation < 4 → allows_transform b operation digits ≡ true → allows_transform a operation digits ≡ true)
    × (has_a a ≡ true → (operation sheets : ℕ) → operation < 5 → discharges_a b operation sheets ≡ true → discharges_a a operation sheets ≡ true)
    × (has_n a ≡ true → allows_noise b ≡ true → allows_noise a ≡ true)

-- "Composition of two labels" is at least as strict as both, and no stricter than any label that is
abbrev pub ComposedAbove : Type 0
ComposedAbove = (a b : ℕ) → AsStrict a (composed a b) × AsStrict b (composed a b)

abbrev pub ComposedLeast : Type 0
ComposedLeast = (a b c : ℕ) → AsStrict a c → AsStrict b c → AsStrict (composed a b) c

-- "Discharge" makes a label no stricter
abbrev pub DischargeLowers : Type 0
DischargeLowers = (label operation : ℕ)
    → ((digits : ℕ) → AsStrict (after_t label operation digits) label) × ((sheets : ℕ) → AsStrict (after_a label operation sheets) label)
    × AsStrict (after_n label) label

-- a label that is no stricter than a clear one is clear
abbrev pub ClearLeast : Type 0
ClearLeast = (a : ℕ) → well_formed a ≡ true → AsStrict a 0 → a ≡ 0

-- what is not forbidden on a label is not forbidden on one that is less strict
abbrev pub ForbidsLess : Type 0
ForbidsLess = (a b : ℕ) → AsStrict a b
    → (forbids_t b ≡ false → forbids_t a ≡ false) × (forbids_a b ≡ false → forbids_a a ≡ false) × (forbids_n b ≡ false → forbids_n a ≡ false)

-- composition of stricter labels is stricter, and so is what discharge leaves of a stricter label
abbrev pub ComposedMonotone : Type 0
ComposedMonotone = (a b c d : ℕ) → AsStrict a c → AsStrict b d → AsStrict (composed a b) (composed c d)

abbrev pub DischargeMonotone : Type 0
DischargeMonotone = (a b : ℕ) → AsStrict a b
    → ((operation digits : ℕ) → operation < 4 → AsStrict (after_t a operation digits) (after_t b operation digits))
    × ((operation sheets : ℕ) → operation < 5 → AsStrict (after_a a operation sheets) (after_a b operation sheets))
    × AsStrict (after_n a) (after_n b)
