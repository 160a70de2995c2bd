-- What a group minimum is held against. These are theorems about the definitions, each proved; nothing here is to be believed.
use Rattle.std.specs.Prelude.{ℕ, ◌≤◌, ◌<◌, ◌≡◌, List, [], map, eqb, length}
use Rattle.plan.specs.Group.{groups_after, group_size}
use Rattle.plan.specs.Sense.Groups.{EachTwo, Firsts}
use Rattle.plan.specs.Table.{Row, Each}

-- "The group minimum shall count distinct sheets": a group counts as the length of a list that has each of its marks where it stands
-- first, and no other
abbrev pub SheetsCounted : Type 0
SheetsCounted = (group : List Row)
    → (firsts : List ℕ) × Firsts eqb [] firsts (map (λ row. row.mark) group) × (group_size group ≡ length firsts)

-- a group of rows has a sheet, and no more sheets than rows
abbrev pub SheetsBounded : Type 0
SheetsBounded = (group : List Row) → 0 < length group → (1 ≤ group_size group) × (group_size group ≤ length group)

-- as many sheets as rows
abbrev pub SheetForEach : List Row → Type 0
SheetForEach group = group_size group ≡ length group

-- rows of which no two have one mark are as many sheets as rows, and so is each of their groups
abbrev pub DifferentCounted : Type 0
DifferentCounted = (keys columns : ℕ) (rows : List Row) → EachTwo (λ row other. ¬ (row.mark ≡ other.mark)) rows
    → SheetForEach rows × Each SheetForEach (groups_after keys columns [] rows)
