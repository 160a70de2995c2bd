-- What is left of the check of an overlay part's labels, after one label and after one row. Assumes nothing.
use Prim.Native.Nat.{ℕ, ◌+◌, ◌-◌, ◌*◌, ◌<◌}
use mathlib.Core.Path.{◌≡◌}
use mathlib.Core.Bool.{true}
use mathlib.Core.List.{List}
use native.Mathlib.Nat.{add-suc, suc-mul}
use native.Mathlib.Numerals.{add-one}
use Rattle.input.specs.Verdict.{accepted}
use Rattle.input.proofs.Laws.{one_left}
use Rattle.overlay_part.specs.Labels.{label_fits, check_row, check_rows}
use Rattle.overlay_part.specs.OverlayPart.{label_in}
use Rattle.table_part.specs.TablePart.{columns_of, sheets_of}

pub after_label : (part : List ℕ) (at first columns column : ℕ) → column < columns → label_fits (sheets_of part) column (label_in part (first + column)) ≡ true
    → check_row part at (first + column) column (columns - column) ≡ check_row part at (first + (column + 1)) (column + 1) (columns - (column + 1))
after_label part at first columns column h e = rw (add-one column, add-suc first column, one_left column columns h, e)

pub after_row : (part : List ℕ) (at rows row columns : ℕ) → row < rows → columns_of part ≡ columns → check_row part at (row * columns) 0 columns ≡ accepted
    → check_rows part at (row * columns) (rows - row) ≡ check_rows part at ((row + 1) * columns) (rows - (row + 1))
after_row part at rows row columns h w e = rw (add-one row, suc-mul row columns, one_left row rows h, w, e)
