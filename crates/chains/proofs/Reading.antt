-- Cells of a table in memory, read out of the slices. Assumes nothing.
use Prim.Native.Nat.{ℕ, zero, suc, ◌+◌, ◌≤◌, ◌<◌}
use mathlib.Core.Path.{◌≡◌, refl, sym, ap, ◌∙◌}
use mathlib.Core.Bool.{Bool, true, false, ◌&&◌, and-true}
use mathlib.Core.List.{List}
use native.Mathlib.Numerals.{add-one}
use native.Mathlib.Omega.{arith}
use lib.IntN.{ℤ, pos}
use lib.ListN.{length, get_or, take, drop, length-drop}
use lib.Seq.{get_or-take, get_or-drop, length-take-le}
use Rattle.plan.specs.Masks.{in_mask}
use Rattle.cells.specs.promises.Cells.{cells_of, row_from}
use Rattle.cells.specs.promises.Work.{work}
use Rattle.plan.specs.Group.{same_keys}
use Rattle.chains.specs.promises.Leads.{same_upto, same_values}
use Rattle.plan.specs.Table.{Cell, blank, cell_at}
use Rattle.comparison.specs.Comparison.{same}
use Rattle.cells.proofs.CellLaws.{cells-get}

module _ (vs : List ℤ) (ls : List ℕ) (columns place column : ℕ) (h : column < columns) (v : place + columns ≤ length vs) (l : place + columns ≤ length ls) where
  -- a cell of the row that begins at a place
  pub cell-read : cell_at column (row_from columns (cells_of vs ls) place) ≡ record { value = get_or vs (place + column) (pos 0); label = get_or ls (place + column) 0 }
  cell-read =
      get_or-take columns (drop place (cells_of vs ls)) column blank h
      ∙ get_or-drop place (cells_of vs ls) column blank
      ∙ cells-get (work vs ls) (place + column) (pos 0) (omega arith) (omega arith)

  pub value_read : (cell_at column (row_from columns (cells_of vs ls) place)).value ≡ get_or vs (place + column) (pos 0)
  value_read = ap (λ (cell : Cell). cell.value) cell-read

  pub label-read : (cell_at column (row_from columns (cells_of vs ls) place)).label ≡ get_or ls (place + column) 0
  label-read = ap (λ (cell : Cell). cell.label) cell-read

-- the keys of two rows, read out of the values
module _ (vs : List ℤ) (ls : List ℕ) (keys columns first second : ℕ) (v : first + columns ≤ length vs) (w : second + columns ≤ length vs) (l : first + columns ≤ length ls) (m : second + columns ≤ length ls) where
  one-read : (place column : ℕ) → column < columns → place + columns ≤ length vs → place + columns ≤ length ls → (cell_at column (row_from columns (cells_of vs ls) place)).value ≡ get_or (take columns (drop place vs)) column (pos 0)
  one-read place column h p q = value_read vs ls columns place column h p q ∙ sym (get_or-take columns (drop place vs) column (pos 0) h ∙ get_or-drop place vs column (pos 0))

  same-read : (column : ℕ) → column ≤ columns
      → same_keys keys column (row_from columns (cells_of vs ls) first) (row_from columns (cells_of vs ls) second) ≡ same_upto keys (take columns (drop first vs)) (take columns (drop second vs)) column
  same-read zero h = refl
  same-read (suc column) h = rw (same-read column (omega arith), one-read first column (omega arith) v l, one-read second column (omega arith) w m)

  pub keys-read : same_keys keys columns (row_from columns (cells_of vs ls) first) (row_from columns (cells_of vs ls) second) ≡ same_values keys (take columns (drop first vs)) (take columns (drop second vs))
  keys-read = same-read columns (omega arith) ∙ ap (same_upto keys (take columns (drop first vs)) (take columns (drop second vs))) (sym (length-take-le columns (drop first vs) (omega (arith, length-drop first vs))))

-- one column more is compared, or passed over
module _ (keys column : ℕ) (a b : List ℤ) {all : Bool} (e : all ≡ same_upto keys a b column) where
  pub key-compared : {equal : Bool} → in_mask keys column ≡ true → equal ≡ same (get_or a column (pos 0)) (get_or b column (pos 0)) → (all && equal) ≡ same_upto keys a b (column + 1)
  key-compared k r = rw (add-one column, e, k, r)

  pub column-passed : in_mask keys column ≡ false → all ≡ same_upto keys a b (column + 1)
  column-passed k = rw (add-one column, k, e) (sym (and-true (same_upto keys a b column)))

-- rows whose keys differ among the first columns differ
pub differ : (keys column more : ℕ) (a b : List ℤ) → same_upto keys a b column ≡ false → same_upto keys a b (more + column) ≡ false
differ keys column zero a b e = let z : 0 + column ≡ column = omega arith in rw z e
differ keys column (suc more) a b e = let s : suc more + column ≡ suc (more + column) = omega arith in rw (s, differ keys column more a b e)
