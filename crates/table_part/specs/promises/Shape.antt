-- A table part's columns and rows as one value.
use Rattle.std.specs.Prelude.{ℕ, List}
use Rattle.table_part.specs.TablePart.{columns_of, row_count}
use Rattle.table_part.specs.declared.Shape.{Shape}

unfoldable pub shape_of : List ℕ → Shape
shape_of part = record { columns = columns_of part; rows = row_count part }
