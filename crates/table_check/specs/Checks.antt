-- "Refused because of the input (place: a byte offset)": for each table 13, then for each cell 14, 15; then #103's 20.
use Rattle.std.specs.Prelude.{ℕ, zero, suc, ◌+◌, not, List}
use Rattle.input.specs.Verdict.{InputVerdict, accepted, and_then, reject_if}
use Rattle.label_words.specs.WellFormed.{well_formed_from}
use Rattle.sheet_check.specs.Sheets.{sheets_fit}
use Rattle.table_part.specs.TablePart.{cell_count, header_fits, value_place, label_place, value_of, label_of}
use Rattle.value.specs.Range.{in_range}

-- "14: value out of range. 15: ill-formed label. Place: the field." The table part begins at `at`, and no group minimum may be below `least`.
abbrev pub check_cells : ℕ → List ℕ → ℕ → ℕ → ℕ → InputVerdict
check_cells least part at cell zero = accepted
check_cells least part at cell (suc more) =
    and_then (reject_if (not (in_range (value_of part cell))) 14 (at + value_place cell))
    (and_then (reject_if (not (well_formed_from least (label_of part cell))) 15 (at + label_place cell)) (check_cells least part at (suc cell) more))

-- "13: table header or length. Place: the part." #103: "It refuses with 20, after all 14 and 15 of the table, when byte 1 names no column or a sheet
-- cell is negative or not clear; the place is the table part."
unfoldable pub check_table : ℕ → List ℕ → ℕ → InputVerdict
check_table least part at =
    and_then (reject_if (not (header_fits part)) 13 at) (and_then (check_cells least part at 0 (cell_count part)) (reject_if (not (sheets_fit part)) 20 at))
