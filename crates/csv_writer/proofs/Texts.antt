-- What the functions that write a text answer, by cases. Assumes nothing.
use Prim.Native.Nat.{ℕ, ◌+◌, ◌*◌, ◌≤◌, ◌<◌}
use mathlib.Core.Path.{◌≡◌, refl, sym, ◌∙◌}
use mathlib.Core.Bool.{Bool, true, false, cond, and-eq-true_iff}
use mathlib.Core.List.{List}
use native.Mathlib.Omega.{arith}
use lib.Dec.{leb}
use lib.IntN.{ℤ}
use lib.ListN.{length, take}
use borrow.Author.Tests.{leb-true, le-leb, lt-leb}
use Rattle.std.specs.Prelude.{Option, Some, None, Result, Ok, Err}
use Rattle.std.specs.Option.{ok_or}
use Rattle.cells.specs.promises.Search.{table_within}
use Rattle.cells.specs.promises.Written as cells
use Rattle.cells.proofs.Written.{then-written}
use Rattle.csv_text.specs.Text.{header}
use Rattle.csv_writer.specs.promises.Cells.{spelled}
use Rattle.csv_writer.specs.promises.Writing.{is_table, text_from, text_length, writing_of, text_after}
use Rattle.csv_writer.specs.declared.write.WritingError.{WritingError}
use Rattle.csv_writer.specs.declared.write.WritingError.TheVariants.{TooShort, NoTable}
use Rattle.csv_writer.proofs.Cells.{table-fits, text-spelled, text-length, header-length}

module _ (values : List ℤ) (rows columns : ℕ) where
  pub table-parts : is_table values rows columns ≡ true → (1 ≤ columns) × (columns ≤ 8) × (rows * columns ≤ length values) × (rows * columns ≤ 2048)
  table-parts e =
      let h = (and-eq-true_iff (leb 1 columns) (table_within 0 rows columns (length values))).0 e in
      let t = table-fits rows columns (length values) h.1 in
      (leb-true 1 columns h.0, t.1, t.2, t.0)

  pub length-is : is_table values rows columns ≡ true
      → length (text_from values rows columns) ≡ 3 * columns + 1 + length (spelled columns columns (take (rows * columns) values))
  length-is e = let t = table-parts e in text-length columns rows values t.0 t.1 t.2

  -- the length tells whether there is a table
  pub a-table : {r : Option ℕ} {n : ℕ} → r ≡ text_length values rows columns → r ≡ Some n → (is_table values rows columns ≡ true) × (n ≡ length (text_from values rows columns))
  a-table {r} {n} e f = go (is_table values rows columns) (sym f ∙ e)
    where
      go : (t : Bool) → Some n ≡ cond t (Some (length (text_from values rows columns))) None → (t ≡ true) × (n ≡ length (text_from values rows columns))
      go false g = cc
      go true g = (refl, cc)

  pub no-table : {r : Option ℕ} {w : WritingError} → r ≡ text_length values rows columns → r ≡ None → Err w ≡ ok_or {T = ℕ} r NoTable
      → (is_table values rows columns ≡ false) × (w ≡ NoTable)
  no-table {r} {w} e f g = (go (is_table values rows columns) (sym f ∙ e), error (rw f at g))
    where
      error : Err w ≡ ok_or {T = ℕ} None NoTable → w ≡ NoTable
      error h = cc

      go : (t : Bool) → None ≡ cond t (Some (length (text_from values rows columns))) None → t ≡ false
      go false h = refl
      go true h = cc

  abbrev pub Answered : List ℕ → Result ℕ WritingError → List ℕ → Type 0
  Answered text answer after = (answer ≡ writing_of values rows columns text) × (after ≡ text_after values rows columns text)

  pub not_written : (text : List ℕ) → is_table values rows columns ≡ false → Answered text (Err NoTable) text
  not_written text e = (rw e, rw e)

  pub too_short : (text : List ℕ) → is_table values rows columns ≡ true → length text < length (text_from values rows columns) → Answered text (Err TooShort) text
  too_short text e h = let s = lt-leb (length (text_from values rows columns)) (length text) h in (rw (e, s), rw (e, s))

  pub all-written : (text mid after : List ℕ) → is_table values rows columns ≡ true → length (text_from values rows columns) ≤ length text → cells.Written text 0 (header columns) mid
      → cells.Written mid (3 * columns + 1) (spelled columns columns (take (rows * columns) values)) after → {n : ℕ} → n ≡ length (text_from values rows columns) → Answered text (Ok n) after
  all-written text mid after e h w u l =
      let s = le-leb (length (text_from values rows columns)) (length text) h in
      let t = table-parts e in
      let k : 3 * columns + 1 ≡ 0 + length (header columns) = omega (arith, header-length columns t.0 t.1) in
      let d = then-written w k u in
      let z : 0 + length (text_from values rows columns) ≡ length (text_from values rows columns) = omega arith in
      (rw (e, s, l), rw (e, s) (rw z at (rw (← text-spelled columns rows values t.0 t.2) at d.is)))
