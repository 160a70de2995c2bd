-- "A report united a table with itself and twenty rows came from ten ballots." These are theorems about the definitions, each proved;
-- nothing here is to be believed.
use Rattle.std.specs.Prelude.{ℕ, ◌≡◌, true, List, [], ◌++◌, map}
use Rattle.label_words.specs.WellFormed.{well_formed}
use Rattle.plan.specs.Group.{groups_after, group_size, grouped}
use Rattle.plan.specs.Table.{Row, Table, cell_at, Each, grid}
use Rattle.plan.specs.Union.{united}
use Rattle.plan.specs.declared.Aggregate.{Aggregate}

-- rows twice over are no more sheets
abbrev pub TwiceCounted : Type 0
TwiceCounted = (group : List Row) → group_size (group ++ group) ≡ group_size group

-- a table united with itself has the groups of the table, each twice over
abbrev pub TwiceGrouped : Type 0
TwiceGrouped = (keys columns : ℕ) (rows : List Row)
    → groups_after keys columns [] (rows ++ rows) ≡ map (λ group. group ++ group) (groups_after keys columns [] rows)

-- GROUP over a table united with itself discharges exactly what it does over the table alone. The labels of the aggregated cells are
-- well-formed: 15 refuses any other word, and one that is ill-formed can change where it is composed with itself (0x40000400 has
-- digits but allows no cut, so it would lose them).
abbrev pub UnitedWithItself : Type 0
UnitedWithItself = (keys : ℕ) (aggregate : Aggregate) (column : ℕ) (table : Table)
    → Each (λ row. well_formed (cell_at column row).label ≡ true) table.rows
    → grid (grouped keys aggregate column (united table table)) ≡ grid (grouped keys aggregate column table)
