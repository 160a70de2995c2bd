-- "Table: byte 0 columns 1 to 8, byte 1 zero, then 16-bit rows 0 to 256, then the cells row by row, each a signed 64-bit value and a label."
-- #103: "Byte 1 of a table is zero, or one more than the column of sheet numbers."
use Rattle.std.specs.Prelude.{ℕ, zero, suc, ◌+◌, ◌*◌, Bool, ◌&&◌, List, [], ◌∷◌, eqb, leb, ℤ, length}
use Rattle.little_endian.specs.Bytes.{number_at, byte_at}
use Rattle.plan.specs.Sheets.{InputTable}
use Rattle.plan.specs.Table.{Cell}
use Rattle.value.specs.Pattern.{signed_of}

abbrev pub columns_of : List ℕ → ℕ
columns_of part = byte_at part 0

abbrev pub sheets_of : List ℕ → ℕ
sheets_of part = byte_at part 1

abbrev pub row_count : List ℕ → ℕ
row_count part = number_at part 2 2

-- how many cells a header announces
abbrev pub cell_count : List ℕ → ℕ
cell_count part = row_count part * columns_of part

-- "13: table header or length": "Part length is 4 + 12 × rows × columns."; #103: "13 no longer tests byte 1."
unfoldable pub header_fits : List ℕ → Bool
header_fits part =
    leb 4 (length part) && leb 1 (columns_of part) && leb (columns_of part) 8 && leb (row_count part) 256 && eqb (length part) (4 + 12 * cell_count part)

-- the places of a cell's value and label
abbrev pub value_place : ℕ → ℕ
value_place cell = 4 + 12 * cell

abbrev pub label_place : ℕ → ℕ
label_place cell = 4 + 12 * cell + 8

abbrev pub value_of : List ℕ → ℕ → ℤ
value_of part cell = signed_of (number_at part (value_place cell) 8)

abbrev pub label_of : List ℕ → ℕ → ℕ
label_of part cell = number_at part (label_place cell) 4

-- so many cells from one on
abbrev pub cells_from : List ℕ → ℕ → ℕ → List Cell
cells_from part cell zero = []
cells_from part cell (suc more) = record { value = value_of part cell; label = label_of part cell } ∷ cells_from part (suc cell) more

unfoldable pub table_of : List ℕ → InputTable
table_of part = record {
  columns = columns_of part;
  sheets = sheets_of part;
  rows = row_count part;
  cells = cells_from part 0 (cell_count part);
}
