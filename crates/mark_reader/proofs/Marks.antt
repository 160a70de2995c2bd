-- The marks of a table part's rows, one by one. Assumes nothing.
use Prim.Native.Nat.{ℕ, zero, suc, ◌+◌, ◌-◌, ◌*◌, ◌≤◌, ◌<◌}
use mathlib.Core.Path.{◌≡◌, refl, sym, ap, ◌∙◌}
use mathlib.Core.List.{List, [], ◌∷◌, ◌++◌, append_assoc}
use native.Mathlib.Nat.{add-zero, add-suc, suc-add, zero-add, add_comm, zero-mul, suc-mul}
use native.Mathlib.Numerals.{add-one}
use native.Mathlib.Omega.{arith}
use lib.Dec.{leb}
use lib.ListN.{length, get_or, take, drop, set, length-drop}
use lib.Seq.{drop-drop, length-take-le, take_at, drop_at, set_at, drop-cons}
use borrow.Rule.Slice.PartMut.{put_mid}
use Rattle.std.proofs.lemmas.Grind.{common_steps}
use Rattle.cells.specs.promises.Cells.{within}
use Rattle.little_endian.proofs.Numbers.{number-one, joined}
use Rattle.mark_reader.specs.promises.Marks.{first_marks, marks_after}
use Rattle.plan.specs.Sheets.{mark_of, marks_from}
use Rattle.plan.specs.Table.{Cell, blank}
use Rattle.table_part.specs.TablePart.{columns_of, sheets_of, row_count, value_of, label_of, cells_from, table_of}
use Rattle.table_part.proofs.Laws.{cells-length}
use Rattle.value.specs.Pattern.{magnitude_of}

pub marks-length : (sheets columns table row n : ℕ) (cells : List Cell) → length (marks_from sheets columns table row n cells) ≡ n
marks-length sheets columns table row zero cells = refl
marks-length sheets columns table row (suc n) cells = ap suc (marks-length sheets columns table (suc row) n (drop columns cells))

module _ (part : List ℕ) where
  abbrev cell_of : ℕ → Cell
  cell_of cell = record { value = value_of part cell; label = label_of part cell }

  cells-then : (cell n more : ℕ) → cells_from part cell (n + more) ≡ cells_from part cell n ++ cells_from part (cell + n) more
  cells-then cell zero more = rw (add-zero cell, zero-add more)
  cells-then cell (suc n) more =
      rw (suc-add n more) (ap (λ (l : List Cell). cell_of cell ∷ l) (cells-then (suc cell) n more ∙ ap (λ (k : ℕ). cells_from part (suc cell) n ++ cells_from part k more) (suc-add cell n ∙ sym (add-suc cell n))))

  value-at : (cell n j : ℕ) → j < n → (get_or (cells_from part cell n) j blank).value ≡ value_of part (cell + j)
  value-at cell zero j h = absurd (omega arith)
  value-at cell (suc n) zero h = ap (value_of part) (sym (add-zero cell))
  value-at cell (suc n) (suc j) h = value-at (suc cell) n j (omega arith) ∙ ap (value_of part) (suc-add cell j ∙ sym (add-suc cell j))

  -- the value in the column that byte 1 names
  pub sheet-mark : (sheets columns table row : ℕ) → (sheets ≡ 0 → ⊥) → sheets ≤ columns
      → magnitude_of (value_of part (row * columns + (sheets - 1))) ≡ mark_of sheets table row (cells_from part (row * columns) columns)
  sheet-mark zero columns table row n h = absurd (n refl)
  sheet-mark (suc column) columns table row n h =
      let e : suc column - 1 ≡ column = omega arith in
      rw e (ap magnitude_of (sym (value-at (row * columns) columns column (omega arith))))

  module _ (sheets columns table : ℕ) where
    abbrev marks : ℕ → ℕ → ℕ → List ℕ
    marks row cell n = marks_from sheets columns table row n (cells_from part cell (n * columns))

    abbrev mark : ℕ → ℕ → ℕ
    mark row cell = mark_of sheets table row (cells_from part cell columns)

    marks-first : (row cell n : ℕ) → marks row cell (suc n) ≡ mark row cell ∷ marks (suc row) (cell + columns) n
    marks-first row cell n =
        let split : cells_from part cell (suc n * columns) ≡ cells_from part cell columns ++ cells_from part (cell + columns) (n * columns)
        = ap (cells_from part cell) (suc-mul n columns ∙ add_comm (n * columns) columns) ∙ cells-then cell columns (n * columns) in
        let long = cells-length part cell columns in
        rw (split, take_at (cells_from part cell columns) _ columns long, drop_at (cells_from part cell columns) _ columns long)

    marks-last : (row cell n : ℕ) → marks row cell (suc n) ≡ marks row cell n ++ (mark (row + n) (cell + n * columns) ∷ [])
    marks-last row cell zero = marks-first row cell 0 ∙ rw (add-zero row, zero-mul columns, add-zero cell)
    marks-last row cell (suc n) =
        let r : row + suc n ≡ suc row + n = omega arith in
        let p : cell + suc n * columns ≡ cell + columns + n * columns = omega (arith, suc-mul n columns) in
        marks-first row cell (suc n) ∙ ap (λ (l : List ℕ). mark row cell ∷ l) (marks-last (suc row) (cell + columns) n)
        ∙ rw (r, p) (ap (λ (l : List ℕ). l ++ (mark (suc row + n) (cell + columns + n * columns) ∷ [])) (sym (marks-first row cell n)))

  -- one row more is written
  pub one_mark : (table row x : ℕ) (old now : List ℕ) → row < length old → now ≡ first_marks part table row ++ drop row old
      → x ≡ mark_of (sheets_of part) table row (cells_from part (row * columns_of part) (columns_of part))
      → set now row x ≡ first_marks part table (row + 1) ++ drop (row + 1) old
  one_mark table row x old now h s e =
      let sheets = sheets_of part in
      let columns = columns_of part in
      let done = first_marks part table row in
      let left = drop (suc row) old in
      let long : length done ≡ row = marks-length sheets columns table 0 row (cells_from part 0 (row * columns)) in
      let more : first_marks part table (suc row) ≡ done ++ (x ∷ []) = marks-last sheets columns table 0 0 row ∙ rw (zero-add row, zero-add (row * columns), e) in
      ap (λ (l : List ℕ). set l row x) (s ∙ ap (λ (l : List ℕ). done ++ l) (drop-cons old row 0 h)) ∙ set_at done (get_or old row 0) left x row long
      ∙ sym (append_assoc done (x ∷ []) left) ∙ rw (add-one row) (ap (λ (l : List ℕ). l ++ left) (sym more))

  -- what stands around the marks stays
  pub marks_put : (table at rows : ℕ) (old new : List ℕ) → rows ≡ row_count part → at + rows ≤ length old → new ≡ first_marks part table (length (take (at + rows - at) (drop at old)))
      → put_mid at (at + rows - at) old new ≡ marks_after part table old at
  unfolding table_of
  marks_put table at rows old new r h e =
      let k : at + rows - at ≡ rows = omega arith in
      let long : length (take (at + rows - at) (drop at old)) ≡ row_count part = rw k (length-take-le rows (drop at old) (omega (arith, length-drop at old)) ∙ r) in
      let is : new ≡ first_marks part table (row_count part) = e ∙ ap (first_marks part table) long in
      rw (k, is, r, drop-drop (row_count part) at old)

-- a row count is a number of two bytes
pub few_rows : (part : List ℕ) → ((i : ℕ) → get_or part i 0 < 256) → row_count part < 65536
few_rows part bounds = omega (arith, bounds 2, bounds 3, joined part 2 1 1 (number-one part 2 refl) (number-one part 3 refl))

-- a range of elements lies within a slice
pub within_room : (from count n : ℕ) → within from count n ≡ leb (from + count) n
within_room from count n = grind (arith, common_steps)
