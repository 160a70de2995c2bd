-- Document 01's ten examples hold of the definitions, by one computation over one table. Assumes nothing.
use mathlib.Core.Path.{◌≡◌, refl}
use mathlib.Core.Bool.{true}
use Rattle.label_laws.specs.Examples.{all, label_rows}
use Rattle.label_laws.proofs.Examples.{label-rows-hold, all_append}
use Rattle.plan.specs.Examples.{number_rows, examples}
use Rattle.aggregate.specs.Aggregate.{exact_sum, all_in_range}
use Rattle.rounding.specs.Rounding.{distance, even, nearer, rounded, average}
use Rattle.arithmetic.specs.Arithmetic.{plus, cut, band}
use Rattle.value.specs.Division.{floored}
use Rattle.value.specs.Equality.{eq_z}
use Rattle.value.specs.Range.{OVER, least, most, in_range, both_in_range, settled, of_both}

number-rows-hold : all number_rows ≡ true
unfolding number_rows exact_sum all_in_range distance even nearer rounded average plus cut band floored eq_z OVER least most in_range both_in_range settled of_both
number-rows-hold = refl

pub examples-hold : all examples ≡ true
examples-hold = all_append label_rows number_rows label-rows-hold number-rows-hold
