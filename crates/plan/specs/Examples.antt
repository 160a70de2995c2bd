-- "Proved examples": the table of all ten. Rows 1 to 7 are on labels; those on numbers come after them. Row 9 is #105's.
use Rattle.std.specs.Prelude.{List, [], ◌∷◌, ◌++◌, pos, negsuc}
use Rattle.label_laws.specs.Examples.{Example, row, label_rows}
use Rattle.plan.specs.Group.{aggregate_value}
use Rattle.plan.specs.declared.Aggregate.TheVariants.{Avg}
use Rattle.arithmetic.specs.Arithmetic.{plus, cut, band}
use Rattle.value.specs.Equality.{eq_z}
use Rattle.value.specs.Range.{OVER, least, most}

unfoldable pub number_rows : List Example
number_rows =
    row 8 (eq_z (cut 1 (negsuc 14)) (negsuc 0))
    ∷ row 8 (eq_z (band (pos 10) (negsuc 14)) (negsuc 19))
    ∷ row 9 (eq_z (aggregate_value Avg (negsuc 0 ∷ pos 0 ∷ [])) (pos 0))
    ∷ row 9 (eq_z (aggregate_value Avg (pos 1 ∷ pos 2 ∷ [])) (pos 2))
    ∷ row 10 (eq_z (band (pos 3) least) OVER)
    ∷ row 10 (eq_z (plus most (pos 1)) OVER)
    ∷ []

abbrev pub examples : List Example
examples = label_rows ++ number_rows
