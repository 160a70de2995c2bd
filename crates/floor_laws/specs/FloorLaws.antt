-- #108: what the floor does to a label, and what it leaves. Each of these is proved, of every year.
use Rattle.std.specs.Prelude.{ℕ, max, ◌≡◌, true, cond}
use Rattle.label_composition.specs.Composition.{composed}
use Rattle.label_floor.specs.Floor.{floor_of, floored}
use Rattle.label_laws.specs.Order.{AsStrict}
use Rattle.label_words.specs.WellFormed.{well_formed}
use Rattle.label_words.specs.Word.{stages_of, transforms_of, digits_of, aggregates_of, noise_of, has_a, minimum_of}

-- "each A minimum below ten is read as ten": only the minimum moves, and only where A is present
pub record FloorKeeps (year label : ℕ) : Type 0 where
  pub stages : stages_of (floored year label) ≡ stages_of label
  pub transforms : transforms_of (floored year label) ≡ transforms_of label
  pub digits : digits_of (floored year label) ≡ digits_of label
  pub aggregates : aggregates_of (floored year label) ≡ aggregates_of label
  pub noise : noise_of (floored year label) ≡ noise_of label
  pub minimum : minimum_of (floored year label) ≡ cond (has_a label) (max (minimum_of label) (floor_of year)) (minimum_of label)

-- "0 as now"
abbrev pub EarlierRule : Type 0
EarlierRule = (label : ℕ) → floored 0 label ≡ label

-- of a label the floor makes a label, which is at least as strict
abbrev pub FloorWellFormed : Type 0
FloorWellFormed = (year label : ℕ) → well_formed label ≡ true → well_formed (floored year label) ≡ true

abbrev pub FloorAbove : Type 0
FloorAbove = (year label : ℕ) → AsStrict label (floored year label)

-- of a stricter label it makes a stricter one
abbrev pub FloorMonotone : Type 0
FloorMonotone = (year a b : ℕ) → AsStrict a b → AsStrict (floored year a) (floored year b)

-- a label that is read twice is read the same
abbrev pub FloorAgain : Type 0
FloorAgain = (year label : ℕ) → floored year (floored year label) ≡ floored year label

-- the floor of a composition is the composition of the floors: it is the same whether it comes before composition, to both labels, or after
abbrev pub FloorComposed : Type 0
FloorComposed = (year a b : ℕ) → floored year (composed a b) ≡ composed (floored year a) (floored year b)

-- a clear label stays clear
abbrev pub FloorClear : Type 0
FloorClear = (year : ℕ) → floored year 0 ≡ 0
