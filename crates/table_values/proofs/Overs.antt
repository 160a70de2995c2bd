-- A value out of range, flagged by a label that is not clear: the search for it is the search for such a label. Assumes nothing.
use Prim.Native.Nat.{ℕ, zero, suc, ◌+◌, ◌≤◌, ◌<◌}
use mathlib.Core.Path.{◌≡◌, refl, sym, ap, ap₂, ◌∙◌}
use mathlib.Core.Bool.{Bool, true, false, cond, not}
use mathlib.Core.List.{List, [], ◌∷◌, map}
use lib.IntN.{ℤ, pos}
use lib.ListN.{length, get_or, take, drop, length-map, get_or-map}
use Rattle.cells.specs.promises.Cells.{grid_of}
use Rattle.plan.specs.Table.{clear}
use Rattle.plan.specs.Verdict.{Verdict, fine, or_else, refuse_if, first_not_clear, not_clear}
use Rattle.table_values.specs.promises.Over.{over_from, first_over_in}
use Rattle.value.specs.Range.{in_range, least, most}
use Rattle.cells.proofs.Searching as searching

abbrev every : ℕ → Bool
every column = true

abbrev flag : ℤ → ℕ
flag value = cond (in_range value) 0 1

abbrev flags : List ℤ → List ℕ
flags values = map flag values

flag-clear : (value : ℤ) → clear (flag value) ≡ in_range value
flag-clear value = go (in_range value)
  where
    go : (b : Bool) → clear (cond b 0 1) ≡ b
    go true = refl
    go false = refl

flags-drop : (n : ℕ) (values : List ℤ) → flags (drop n values) ≡ drop n (flags values)
flags-drop zero values = refl
flags-drop (suc n) [] = refl
flags-drop (suc n) (value ∷ values) = flags-drop n values

flag_at : (values : List ℤ) (i : ℕ) → get_or (flags values) i 0 ≡ flag (get_or values i (pos 0))
unfolding in_range least most
flag_at values i = get_or-map flag values i (pos 0)

flagged-row : (row column n : ℕ) (values : List ℤ) → over_from row column (take n values) ≡ first_not_clear every 36 column row (take n (flags values))
flagged-row row column zero values = refl
flagged-row row column (suc n) [] = refl
flagged-row row column (suc n) (value ∷ values) =
    ap₂ or_else (ap (λ (b : Bool). refuse_if (not b) 36 row column) (sym (flag-clear value))) (flagged-row row (suc column) n values)

flagged : (first columns rows : ℕ) (values : List ℤ) → first_over_in first columns rows values ≡ not_clear every 36 first (grid_of columns rows (flags values))
flagged first columns zero values = refl
flagged first columns (suc rows) values =
    ap₂ or_else (flagged-row first 0 columns values)
    (flagged (suc first) columns rows (drop columns values) ∙ ap (λ (l : List ℕ). not_clear every 36 (suc first) (grid_of columns rows l)) (flags-drop columns values))

module _ (values : List ℤ) (rows columns : ℕ) where
  -- the rows from one on, whose first value stands at `place`
  abbrev pub rows_left : ℕ → ℕ → ℕ → Verdict
  rows_left = searching.rows_left every (flags values) rows columns 36

  -- the rest of a row from a column on, whose value stands at `place`, and the rows after it
  abbrev pub cells_left : ℕ → ℕ → ℕ → ℕ → Verdict
  cells_left = searching.cells_left every (flags values) rows columns 36

  pub search-begins : (first at : ℕ) → first_over_in first columns rows (drop at values) ≡ rows_left first 0 at
  search-begins first at =
      flagged first columns rows (drop at values) ∙ ap (λ (l : List ℕ). not_clear every 36 first (grid_of columns rows l)) (flags-drop at values)
      ∙ searching.search-begins every (flags values) rows columns 36 first at

  -- one cell: it is found, or the search goes on
  pub cell-next : (first row column place : ℕ) → column < columns → place < length values
      → cells_left first row column place
      ≡ or_else (refuse_if (not (in_range (get_or values place (pos 0)))) 36 (first + row) column) (cells_left first row (column + 1) (place + 1))
  cell-next first row column place h l =
      let inside : place < length (flags values) = rw (length-map values flag) l in
      let out : clear (get_or (flags values) place 0) ≡ in_range (get_or values place (pos 0)) = ap clear (flag_at values place) ∙ flag-clear (get_or values place (pos 0)) in
      searching.cell-next every (flags values) rows columns 36 first row column place h inside
      ∙ ap (λ (b : Bool). or_else (refuse_if (not b) 36 (first + row) column) (cells_left first row (column + 1) (place + 1))) out

  pub row-begins : (first row place : ℕ) → row < rows → rows_left first row place ≡ cells_left first row 0 place
  row-begins = searching.row-begins every (flags values) rows columns 36

  pub row_ends : (first row column place : ℕ) → column ≡ columns → cells_left first row column place ≡ rows_left first (row + 1) place
  row_ends = searching.row_ends every (flags values) rows columns 36

  pub search-ends : (first row place : ℕ) → rows ≤ row → rows_left first row place ≡ fine
  search-ends = searching.search-ends every (flags values) rows columns 36
