-- What the aggregates of a group are made of, one value after the other.
use Rattle.std.specs.Prelude.{ℕ, ◌+◌, cond, ◌&&◌, List, [], ◌∷◌, ltb, ℤ, pos}
use Rattle.accumulator.specs.declared.Accumulator.{Accumulator}
use Rattle.aggregate.specs.Aggregate.{smaller, larger, accumulated}
use Rattle.rounding.specs.Rounding.{average}
use Rattle.plan.specs.declared.Aggregate.{Aggregate}
use Rattle.plan.specs.declared.Aggregate.TheVariants.{Count, Sum, Min, Max, Avg}
use Rattle.value.specs.Range.{in_range, OVER, settled}

-- one row more, at most 256
abbrev pub one_more : ℕ → ℕ
one_more rows = cond (ltb rows 256) (rows + 1) 256

-- of one value, and with one value more
abbrev pub single : ℤ → Accumulator
single v = record { rows = 1; exact = in_range v; total = accumulated (pos 0) v; least = v; most = v }

abbrev pub with_value : Accumulator → ℤ → Accumulator
with_value a v = record {
  rows = one_more a.rows;
  exact = a.exact && in_range v;
  total = accumulated a.total v;
  least = smaller a.least v;
  most = larger a.most v;
}

abbrev pub with_values : Accumulator → List ℤ → Accumulator
with_values a [] = a
with_values a (v ∷ vs) = with_values (with_value a v) vs

-- the aggregate that it gives
abbrev pub aggregate_of : Aggregate → Accumulator → ℤ
aggregate_of Count a = pos a.rows
aggregate_of Sum a = cond a.exact (settled a.total) OVER
aggregate_of Min a = a.least
aggregate_of Max a = a.most
aggregate_of Avg a = cond a.exact (average a.total a.rows) OVER
