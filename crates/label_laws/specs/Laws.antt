-- Laws of composition and discharge, as propositions. Each is proved.
use Rattle.std.specs.Prelude.{ℕ, ◌≡◌, true, cond, ◌&&◌, eqb, ltb}
use Rattle.label_composition.specs.Composition.{composed}
use Rattle.label_discharge.specs.Discharge.{allows_transform, discharges_a, allows_noise, without_t, without_a, without_n, forbids_t, forbids_a, forbids_n, after_t, after_a, after_n}
use Rattle.label_words.specs.Stages.{stage_count, highest}
use Rattle.label_words.specs.WellFormed.{well_formed}
use Rattle.label_words.specs.declared.Highest.{Highest}
use Rattle.label_words.specs.declared.Highest.TheVariants.{H, T, A, N, Clear}

-- of labels composition makes a label
abbrev pub ComposedWellFormed : Type 0
ComposedWellFormed = (a b : ℕ) → well_formed a ≡ true → well_formed b ≡ true → well_formed (composed a b) ≡ true

-- it does not depend on the order of the labels, nor on how three are taken together
abbrev pub Commutative : Type 0
Commutative = (a b : ℕ) → composed a b ≡ composed b a

abbrev pub Associative : Type 0
Associative = (a b c : ℕ) → composed (composed a b) c ≡ composed a (composed b c)

-- a label with itself, or with a clear one, is that label (the paper's JBOTL and JBOTR)
abbrev pub Idempotent : Type 0
Idempotent = (a : ℕ) → well_formed a ≡ true → composed a a ≡ a

abbrev pub ClearIsUnit : Type 0
ClearIsUnit = (a : ℕ) → well_formed a ≡ true → (composed a 0 ≡ a) × (composed 0 a ≡ a)

-- What the sentences on discharge say by the highest stage: how high it stands, and that the definitions go by it alone.
abbrev pub rank : Highest → ℕ
rank H = 4
rank T = 3
rank A = 2
rank N = 1
rank Clear = 0

-- "If the highest stage present is above that level, it is forbidden"
abbrev pub ForbiddenAbove : Type 0
ForbiddenAbove = (word : ℕ)
    → (forbids_t word ≡ ltb 3 (rank (highest word))) × (forbids_a word ≡ ltb 2 (rank (highest word))) × (forbids_n word ≡ ltb 1 (rank (highest word)))

-- "If the highest stage is of that level and allows the operation .., that stage and its fields go to zero .. Otherwise the label stays."
abbrev pub DischargesHighest : Type 0
DischargesHighest = (word operation measure : ℕ)
    → (after_t word operation measure ≡ cond (eqb (rank (highest word)) 3 && allows_transform word operation measure) (without_t word) word)
    × (after_a word operation measure ≡ cond (eqb (rank (highest word)) 2 && discharges_a word operation measure) (without_a word) word)
    × (after_n word ≡ cond (eqb (rank (highest word)) 1 && allows_noise word) (without_n word) word)

-- of a label discharge makes a label
abbrev pub DischargedWellFormed : Type 0
DischargedWellFormed = (word operation measure : ℕ) → well_formed word ≡ true
    → (well_formed (after_t word operation measure) ≡ true) × (well_formed (after_a word operation measure) ≡ true) × (well_formed (after_n word) ≡ true)

-- N is the lowest stage: a label whose highest stage it is, and that allows noise, is clear after it
abbrev pub NoiseClears : Type 0
NoiseClears = (word : ℕ) → well_formed word ≡ true → highest word ≡ N → allows_noise word ≡ true → after_n word ≡ 0

-- "Zero means clear": it is the one label with no stage
abbrev pub NoStageIsClear : Type 0
NoStageIsClear = (word : ℕ) → well_formed word ≡ true → stage_count word ≡ 0 → word ≡ 0
