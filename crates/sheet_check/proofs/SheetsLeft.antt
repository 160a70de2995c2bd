-- The check of a column of sheet numbers, at one cell. Assumes nothing.
use Prim.Native.Nat.{ℕ, suc, ◌+◌, ◌-◌, ◌*◌, ◌≤◌, ◌<◌}
use mathlib.Core.Path.{◌≡◌, ◌∙◌}
use mathlib.Core.Bool.{true, false}
use mathlib.Core.List.{List}
use native.Mathlib.Nat.{sub-zero}
use native.Mathlib.Omega.{arith}
use Rattle.sheet_check.specs.Sheets.{sheet_fits, all_fit}
use Rattle.table_part.specs.TablePart.{columns_of, row_count}

-- the cells before a row's are as they should be: what is left of the check
pub record Sheets (part : List ℕ) (first row : ℕ) : Type 0 where
  pub left : all_fit part first (row_count part) ≡ all_fit part (first + row * columns_of part) (row_count part - row)

pub begin : (part : List ℕ) (first : ℕ) → Sheets part first 0
begin part first =
    let z : first + 0 * columns_of part ≡ first = omega arith in
    record { left = rw (z, sub-zero (row_count part)) }

module _ {part : List ℕ} {first row : ℕ} (p : Sheets part first row) where
  one_left : row < row_count part → row_count part - row ≡ suc (row_count part - (row + 1))
  one_left h = omega arith

  pub wrong : row < row_count part → sheet_fits part (first + row * columns_of part) ≡ false → all_fit part first (row_count part) ≡ false
  wrong h e = p.left ∙ rw (one_left h, e)

  pub keep : row < row_count part → sheet_fits part (first + row * columns_of part) ≡ true → Sheets part first (row + 1)
  keep h e =
      let next : first + (row + 1) * columns_of part ≡ first + row * columns_of part + columns_of part = omega arith in
      record { left = rw next (p.left ∙ rw (one_left h, e)) }

  pub finish : row_count part ≤ row → all_fit part first (row_count part) ≡ true
  finish h = let z : row_count part - row ≡ 0 = omega arith in p.left ∙ rw z
