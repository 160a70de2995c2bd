-- #103, the tables of the container and the marks of their rows. "Byte 1 of a table is zero, or one more than the column of sheet numbers."
use Rattle.std.specs.Prelude.{ℕ, zero, suc, ◌+◌, ◌*◌, ◌^◌, List, [], ◌∷◌, get_or, take, drop}
use Rattle.plan.specs.Table.{Cell, Table, rows_of, blank}
use Rattle.value.specs.Pattern.{magnitude_of}

-- a table before its rows have marks: its columns, its byte 1, its rows, and its cells row by row
pub record InputTable : Type 0 where
  pub columns : ℕ
  pub sheets : ℕ
  pub rows : ℕ
  pub cells : List Cell

-- "for byte 1 zero, a mark shared with no other table row": past every value, so that no sheet number is one
unfoldable pub own_mark : ℕ → ℕ → ℕ
own_mark table row = 2 ^ 47 + 256 * table + row

-- "that column's value, or, for byte 1 zero, a mark shared with no other table row", of a table, a row and its cells; 20 refuses a negative value
abbrev pub mark_of : ℕ → ℕ → ℕ → List Cell → ℕ
mark_of zero table row cells = own_mark table row
mark_of (suc column) table row cells = magnitude_of (get_or cells column blank).value

-- the marks of so many rows from one on
abbrev pub marks_from : ℕ → ℕ → ℕ → ℕ → ℕ → List Cell → List ℕ
marks_from sheets columns table row zero cells = []
marks_from sheets columns table row (suc more) cells =
    mark_of sheets table row (take columns cells) ∷ marks_from sheets columns table (suc row) more (drop columns cells)

abbrev pub marks_of : ℕ → InputTable → List ℕ
marks_of table input = marks_from input.sheets input.columns table 0 input.rows input.cells

-- what a SCAN of the table with this number pushes; it depends on nothing else: "Scanning a table twice gives the same marks."
unfoldable pub with_marks : ℕ → InputTable → Table
with_marks table input = record { columns = input.columns; rows = rows_of input.columns (marks_of table input) input.cells }

-- the tables, numbered from one on
abbrev pub all_with_marks : ℕ → List InputTable → List Table
all_with_marks table [] = []
all_with_marks table (input ∷ rest) = with_marks table input ∷ all_with_marks (suc table) rest
