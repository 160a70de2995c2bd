-- Which rows FILTER and JOIN make, and in which order. These are theorems about the definitions, each proved; nothing here is to be believed.
use Rattle.std.specs.Prelude.{ℕ, ◌≡◌, Bool, true, false, List, [], ◌∷◌, ◌++◌, map, ◌↔◌, ℤ, ◌≤ℤ◌, ◌<ℤ◌}
use Rattle.plan.specs.Filter.{passes}
use Rattle.plan.specs.Join.{matches, joined_row}
use Rattle.plan.specs.Operands.{operand_value}
use Rattle.plan.specs.Steps.{make}
use Rattle.plan.specs.Supply.{Supply}
use Rattle.plan.specs.Table.{Row, Table, cell_at, top, second}
use Rattle.plan.specs.declared.Comparison.{Comparison}
use Rattle.plan.specs.declared.Comparison.TheVariants.{Equal, Unequal, Less, AtMost, Greater, AtLeast}
use Rattle.plan.specs.declared.Operand.{Operand}
use Rattle.plan.specs.declared.Step.TheVariants.{Join, Filter}
use Rattle.value.specs.Range.{in_range}

-- The first list has exactly those elements of the second that pass a test, in the order in which they stand there.
pub data Sifted {A : Type 0} (test : A → Bool) : List A → List A → Type 0 where
  end : Sifted test [] []
  keeps : {x : A} {kept all : List A} → test x ≡ true → Sifted test kept all → Sifted test (x ∷ kept) (x ∷ all)
  drops : {x : A} {kept all : List A} → test x ≡ false → Sifted test kept all → Sifted test kept (x ∷ all)

-- so a test and a list settle what is kept
abbrev pub SiftedOnce : Type 1
SiftedOnce = (A : Type 0) (test : A → Bool) (all kept other : List A) → Sifted test kept all → Sifted test other all → kept ≡ other

-- ---- "4. FILTER, a = column, b = comparison (0 to 5: =, ≠, <, ≤, >, ≥)"

abbrev pub Holds : Comparison → ℤ → ℤ → Type 0
Holds Equal a b = a ≡ b
Holds Unequal a b = ¬ (a ≡ b)
Holds Less a b = a <ℤ b
Holds AtMost a b = a ≤ℤ b
Holds Greater a b = b <ℤ a
Holds AtLeast a b = b ≤ℤ a

-- a row passes exactly if neither operand is OVER and the comparison holds of them
abbrev pub PassesMeans : Type 0
PassesMeans = (column : ℕ) (comparison : Comparison) (operand : Operand) (row : Row)
    → (passes column comparison operand row ≡ true)
    ↔ ((in_range (cell_at column row).value ≡ true) × (in_range (operand_value operand row) ≡ true)
    × Holds comparison (cell_at column row).value (operand_value operand row))

-- a row is kept exactly if it passes, and the order stays
abbrev pub FilterSifts : Type 0
FilterSifts = (column : ℕ) (comparison : Comparison) (operand : Operand) (supply : Supply) (stack : List Table)
    → Sifted (passes column comparison operand) (make (Filter column comparison operand) supply stack).rows (top stack).rows

-- ---- "3. JOIN .. For each left row, each matching right row in order"

-- rows match exactly if their keys are equal; "OVER matches nothing in a join"
abbrev pub MatchesMeans : Type 0
MatchesMeans = (a b : ℕ) (left right : Row)
    → (matches a b left right ≡ true)
    ↔ ((in_range (cell_at a left).value ≡ true) × (in_range (cell_at b right).value ≡ true) × ((cell_at a left).value ≡ (cell_at b right).value))

-- each element of a list with each of another: the first list element by element, and for each the second in order
abbrev pub pairs : {A : Type 0} → List A → List A → List (A × A)
pairs [] ys = []
pairs (x ∷ xs) ys = map (λ y. (x, y)) ys ++ pairs xs ys

-- the joined rows are made of the pairs that match, in that order, and of no others
abbrev pub JoinSifts : Type 0
JoinSifts = (a b : ℕ) (supply : Supply) (stack : List Table)
    → (matching : List (Row × Row))
    × Sifted (λ pair. matches a b pair.0 pair.1) matching (pairs (second stack).rows (top stack).rows)
    × ((make (Join a b) supply stack).rows ≡ map (λ pair. joined_row b pair.0 pair.1) matching)
