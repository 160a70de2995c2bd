-- #108: "Under 1, each A minimum below ten is read as ten after overlays are composed."
use Rattle.std.specs.Prelude.{ℕ, List, map}
use Rattle.label_floor.specs.Floor.{floored}
use Rattle.plan.specs.Sheets.{InputTable}
use Rattle.plan.specs.Table.{Cell}

-- a cell, a table and all tables, their labels as a rule year reads them
abbrev pub floored_cell : ℕ → Cell → Cell
floored_cell year cell = record { value = cell.value; label = floored year cell.label }

unfoldable pub floored_table : ℕ → InputTable → InputTable
floored_table year table = record {
  columns = table.columns;
  sheets = table.sheets;
  rows = table.rows;
  cells = map (floored_cell year) table.cells;
}

abbrev pub under_year : ℕ → List InputTable → List InputTable
under_year year tables = map (floored_table year) tables
