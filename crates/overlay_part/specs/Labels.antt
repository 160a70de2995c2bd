-- #106: "22 at a label that is ill-formed or that is not zero in a sheet column".
use Rattle.std.specs.Prelude.{ℕ, zero, suc, ◌+◌, Bool, not, ◌&&◌, ◌||◌, List, eqb}
use Rattle.input.specs.Verdict.{InputVerdict, accepted, and_then, reject_if}
use Rattle.label_words.specs.WellFormed.{well_formed}
use Rattle.plan.specs.Table.{clear}
use Rattle.table_part.specs.TablePart.{columns_of, sheets_of, row_count}
use Rattle.overlay_part.specs.OverlayPart.{label_place, label_in}

-- a label that may stand in a column; byte 1 of the header is zero, or one more than the column of sheet numbers
abbrev pub label_fits : ℕ → ℕ → ℕ → Bool
label_fits sheets column label = well_formed label && (clear label || not (eqb sheets (suc column)))

-- "the place is the offset in the overlay, found as for .. 15": so many labels of a row from one on, which stands in this column. The part begins at
-- `at`, and its header is the table's, by 21.
abbrev pub check_row : List ℕ → ℕ → ℕ → ℕ → ℕ → InputVerdict
check_row part at cell column zero = accepted
check_row part at cell column (suc more) =
    and_then (reject_if (not (label_fits (sheets_of part) column (label_in part cell))) 22 (at + label_place cell))
    (check_row part at (suc cell) (suc column) more)

-- so many rows from a cell on
abbrev pub check_rows : List ℕ → ℕ → ℕ → ℕ → InputVerdict
check_rows part at cell zero = accepted
check_rows part at cell (suc more) = and_then (check_row part at cell 0 (columns_of part)) (check_rows part at (cell + columns_of part) more)

unfoldable pub check_labels : List ℕ → ℕ → InputVerdict
check_labels part at = check_rows part at 0 (row_count part)
