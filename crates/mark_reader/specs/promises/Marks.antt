-- What reading the marks of a table's rows into a lent slice answers, and what the slice holds afterwards.
use Rattle.std.specs.Prelude.{ℕ, ◌+◌, ◌*◌, Bool, ◌&&◌, List, ◌++◌, leb, ltb, length, take, drop}
use Rattle.plan.specs.Sheets.{marks_of, marks_from}
use Rattle.table_part.specs.TablePart.{columns_of, sheets_of, row_count, cell_count, cells_from, table_of}

-- byte 1 is no more than the columns, the table's number has 16 bits, the part has its cells, and a slice of this length has room for the marks
unfoldable pub readable : List ℕ → ℕ → ℕ → ℕ → Bool
readable part table marks at =
    leb (sheets_of part) (columns_of part) && ltb table 65536 && leb (4 + 12 * cell_count part) (length part) && leb (at + row_count part) marks

-- the marks of the first rows of the table with this number
abbrev pub first_marks : List ℕ → ℕ → ℕ → List ℕ
first_marks part table rows = marks_from (sheets_of part) (columns_of part) table 0 rows (cells_from part 0 (rows * columns_of part))

-- the table's marks from a place on, and all else as it was
abbrev pub marks_after : List ℕ → ℕ → List ℕ → ℕ → List ℕ
marks_after part table marks at = take at marks ++ (marks_of table (table_of part) ++ drop (at + row_count part) marks)
