-- #106: "one part per table in order, each part the four header bytes of that table and then only labels".
use Rattle.std.specs.Prelude.{ℕ, suc, ◌+◌, ◌*◌, Bool, ◌&&◌, List, [], ◌∷◌, eqb, length}
use Rattle.label_composition.specs.Composition.{composed}
use Rattle.little_endian.specs.Bytes.{number_at}
use Rattle.plan.specs.Sheets.{InputTable}
use Rattle.plan.specs.Table.{Cell}
use Rattle.table_part.specs.TablePart.{columns_of, sheets_of, row_count, cell_count}

-- the place of a cell's label in a part, and the label
abbrev pub label_place : ℕ → ℕ
label_place cell = 4 + 4 * cell

abbrev pub label_in : List ℕ → ℕ → ℕ
label_in part cell = number_at part (label_place cell) 4

-- a part fits its table: bytes 0 and 1 of its header and the two of its rows are the table's, and it has one label for each cell
unfoldable pub part_fits : List ℕ → List ℕ → Bool
part_fits table part =
    eqb (columns_of part) (columns_of table) && eqb (sheets_of part) (sheets_of table) && eqb (row_count part) (row_count table)
    && eqb (length part) (4 + 4 * cell_count table)

-- "composed onto the tables' labels": the cells from one on, each with its label composed with the part's
abbrev pub overlaid_cells : List ℕ → ℕ → List Cell → List Cell
overlaid_cells part cell [] = []
overlaid_cells part cell (next ∷ rest) =
    record { value = next.value; label = composed next.label (label_in part cell) } ∷ overlaid_cells part (suc cell) rest

unfoldable pub overlaid : List ℕ → InputTable → InputTable
overlaid part table = record {
  columns = table.columns;
  sheets = table.sheets;
  rows = table.rows;
  cells = overlaid_cells part 0 table.cells;
}
