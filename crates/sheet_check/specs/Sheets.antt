-- #103, what 20 tests: "byte 1 names no column or a sheet cell is negative or not clear".
use Rattle.std.specs.Prelude.{ℕ, zero, suc, ◌+◌, ◌-◌, Bool, true, not, ◌&&◌, ◌||◌, List, eqb, leb}
use Rattle.plan.specs.Table.{clear}
use Rattle.table_part.specs.TablePart.{columns_of, sheets_of, row_count, value_of, label_of}
use Rattle.value.specs.Pattern.{negative}

-- a sheet cell that is not negative and is clear, and so many of them from one on, a row apart
abbrev pub sheet_fits : List ℕ → ℕ → Bool
sheet_fits part cell = not (negative (value_of part cell)) && clear (label_of part cell)

abbrev pub all_fit : List ℕ → ℕ → ℕ → Bool
all_fit part cell zero = true
all_fit part cell (suc more) = sheet_fits part cell && all_fit part (cell + columns_of part) more

-- byte 1 is zero, or one more than a column whose cells are such; a table without rows has none
unfoldable pub sheets_fit : List ℕ → Bool
sheets_fit part = eqb (sheets_of part) 0 || (leb (sheets_of part) (columns_of part) && all_fit part (sheets_of part - 1) (row_count part))
