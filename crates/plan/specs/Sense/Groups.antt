-- The groups of GROUP: "Groups in order of first appearance". These are theorems about the definitions, each proved; nothing here is to be believed.
use Rattle.std.specs.Prelude.{ℕ, ◌<◌, ◌≡◌, Bool, true, false, List, [], ◌∷◌, ◌++◌, map, ◌↔◌}
use Rattle.plan.specs.Masks.{in_mask}
use Rattle.plan.specs.Group.{same_keys, groups_after, group_row}
use Rattle.plan.specs.Sense.Rows.{Sifted}
use Rattle.plan.specs.Steps.{make}
use Rattle.plan.specs.Supply.{Supply}
use Rattle.plan.specs.Table.{Row, Table, cell_at, top, Each}
use Rattle.plan.specs.declared.Aggregate.{Aggregate}
use Rattle.plan.specs.declared.Step.TheVariants.{Group}
use Rattle.comparison.specs.Comparison.{same}

-- GROUP makes a row of each group of the table, in their order
abbrev pub GroupRows : Type 0
GroupRows = (keys : ℕ) (aggregate : Aggregate) (column : ℕ) (supply : Supply) (stack : List Table)
    → (make (Group keys aggregate column) supply stack).rows
    ≡ map (group_row keys (top stack).columns aggregate column) (groups_after keys (top stack).columns [] (top stack).rows)

-- two rows have the same keys exactly if each column of the mask has the same value in both
abbrev pub SameKeysMeans : Type 0
SameKeysMeans = (keys columns : ℕ) (a b : Row)
    → (same_keys keys columns a b ≡ true)
    ↔ ((column : ℕ) → column < columns → in_mask keys column ≡ true → same (cell_at column a).value (cell_at column b).value ≡ true)

-- each group has a row, and is exactly the table's rows with that row's keys, in their order
abbrev pub Whole : ℕ → ℕ → List Row → List Row → Type 0
Whole keys columns rows [] = ⊥
Whole keys columns rows (first ∷ rest) = Sifted (same_keys keys columns first) (first ∷ rest) rows

abbrev pub GroupsWhole : Type 0
GroupsWhole = (keys columns : ℕ) (rows : List Row) → Each (Whole keys columns rows) (groups_after keys columns [] rows)

-- rows of one group have the same keys
abbrev pub GroupsAlike : Type 0
GroupsAlike = (keys columns : ℕ) (rows : List Row)
    → Each (λ group. Each (λ a. Each (λ b. same_keys keys columns a b ≡ true) group) group) (groups_after keys columns [] rows)

-- a fact of each two elements, an earlier and a later one
abbrev pub EachTwo : {A : Type 0} → (A → A → Type 0) → List A → Type 0
EachTwo R [] = Unit
EachTwo R (x ∷ xs) = Each (R x) xs × EachTwo R xs

-- rows of two groups have different keys
abbrev pub GroupsApart : Type 0
GroupsApart = (keys columns : ℕ) (rows : List Row)
    → EachTwo (λ group other. Each (λ a. Each (λ b. same_keys keys columns a b ≡ false) other) group) (groups_after keys columns [] rows)

-- The first list has exactly those elements of the second that have no earlier one that is the same, in their order; those passed already are
-- earlier too.
pub data Firsts {A : Type 0} (same : A → A → Bool) : List A → List A → List A → Type 0 where
  end : {passed : List A} → Firsts same passed [] []
  new : {x : A} {passed firsts rest : List A} → Each (λ y. same y x ≡ false) passed → Firsts same (passed ++ (x ∷ [])) firsts rest
      → Firsts same passed (x ∷ firsts) (x ∷ rest)
  known : {x : A} {passed firsts rest : List A} → ¬ Each (λ y. same y x ≡ false) passed → Firsts same (passed ++ (x ∷ [])) firsts rest
      → Firsts same passed firsts (x ∷ rest)

-- the first row of each group
abbrev pub first_rows : List (List Row) → List Row
first_rows [] = []
first_rows ([] ∷ groups) = first_rows groups
first_rows ((first ∷ rest) ∷ groups) = first ∷ first_rows groups

-- the groups stand in the order of their first rows, which are the rows with the keys of no earlier row
abbrev pub GroupsInOrder : Type 0
GroupsInOrder = (keys columns : ℕ) (rows : List Row) → Firsts (same_keys keys columns) [] (first_rows (groups_after keys columns [] rows)) rows
