-- How strict an aggregate's label is. These are theorems about the definitions, each proved; nothing here is to be believed.
use Rattle.std.specs.Prelude.{ℕ, List}
use Rattle.label_discharge.specs.Discharge.{after_a}
use Rattle.label_laws.specs.Order.{AsStrict}
use Rattle.plan.specs.Group.{group_size, group_row}
use Rattle.plan.specs.Keep.{kept_count}
use Rattle.plan.specs.Numbers.{aggregate_code}
use Rattle.plan.specs.Table.{Row, cell_at, Each}
use Rattle.plan.specs.declared.Aggregate.{Aggregate}

module _ (keys columns : ℕ) (aggregate : Aggregate) (column : ℕ) (group : List Row) where
  -- the label of the aggregate, which stands after the keys
  abbrev pub aggregate_label : ℕ
  aggregate_label = (cell_at (kept_count keys columns) (group_row keys columns aggregate column group)).label

  -- a member's label, discharged at level A over the sheets of the group
  abbrev pub member_label : Row → ℕ
  member_label row = after_a (cell_at column row).label (aggregate_code aggregate) (group_size group)

-- "the aggregate, whose label is the composition of each cell's label discharged at level A": it is at least as strict as each of these
abbrev pub AggregateAsStrict : Type 0
AggregateAsStrict = (keys columns : ℕ) (aggregate : Aggregate) (column : ℕ) (group : List Row)
    → Each (λ row. AsStrict (member_label keys columns aggregate column group row) (aggregate_label keys columns aggregate column group)) group

-- and no stricter than any label that is
abbrev pub AggregateNoStricter : Type 0
AggregateNoStricter = (keys columns : ℕ) (aggregate : Aggregate) (column : ℕ) (group : List Row) (label : ℕ)
    → Each (λ row. AsStrict (member_label keys columns aggregate column group row) label) group
    → AsStrict (aggregate_label keys columns aggregate column group) label
