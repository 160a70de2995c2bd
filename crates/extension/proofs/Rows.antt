-- Rows with one cell more. Assumes nothing.
use Prim.Native.Nat.{ℕ, suc, ◌+◌}
use mathlib.Core.Path.{◌≡◌, refl, sym, ap, ap₂, ◌∙◌}
use mathlib.Core.List.{List, [], ◌∷◌, ◌++◌, map}
use native.Mathlib.Nat.{add-zero}
use native.Mathlib.Omega.{arith}
use lib.ListN.{length, length-append}
use Rattle.cells.specs.promises.Cells.{Wide}
use Rattle.plan.specs.Table.{Each, Cell, Row, flat}
use Rattle.cells.proofs.Rows.{bare}
use Rattle.extension.specs.promises.Rows.{extended, extended_from}

module _ (new : ℕ → Row → Cell) where
  pub extended-wide : (w i : ℕ) (rows : List Row) → Each (Wide w) rows → Each (Wide (w + 1)) (extended_from new i rows)
  extended-wide w i [] e = tt
  extended-wide w i (row ∷ rest) e = (length-append row.cells _ ∙ ap (λ (n : ℕ). n + 1) e.0, extended-wide w (suc i) rest e.1)

  pub extended-count : (i : ℕ) (rows : List Row) → length (extended_from new i rows) ≡ length rows
  extended-count i [] = refl
  extended-count i (row ∷ rest) = ap suc (extended-count (suc i) rest)

  -- one row more
  pub extended-more : (i : ℕ) (rows : List Row) (row : Row) → extended_from new i (rows ++ (row ∷ [])) ≡ extended_from new i rows ++ (extended new (i + length rows) row ∷ [])
  extended-more i [] row = ap (λ (k : ℕ). extended new k row ∷ []) (sym (add-zero i))
  extended-more i (first ∷ rest) row =
      let next : suc i + length rest ≡ i + suc (length rest) = omega arith in
      ap (λ (l : List Row). extended new i first ∷ l) (extended-more (suc i) rest row ∙ ap (λ (k : ℕ). extended_from new (suc i) rest ++ (extended new k row ∷ [])) next)

  -- each row keeps its mark
  pub extended-marks : (i : ℕ) (rows : List Row) → map (λ row. row.mark) (extended_from new i rows) ≡ map (λ row. row.mark) rows
  extended-marks i [] = refl
  extended-marks i (row ∷ rest) = ap (λ (l : List ℕ). row.mark ∷ l) (extended-marks (suc i) rest)

  -- and where the new cell does not depend on it, neither do the cells
  pub extended-bare : ((i : ℕ) (row : Row) → new i row ≡ new i (bare row)) → (i : ℕ) (rows : List Row) → flat (extended_from new i rows) ≡ flat (extended_from new i (map bare rows))
  extended-bare same i [] = refl
  extended-bare same i (row ∷ rest) = ap₂ (λ (cell : Cell) (l : List Cell). (row.cells ++ (cell ∷ [])) ++ l) (same i row) (extended-bare same (suc i) rest)

-- a fact of each row
module _ (Good : Row → Type 0) (new other : ℕ → Row → Cell) (same : (i : ℕ) (row : Row) → Good row → new i row ≡ other i row) where
  -- for which two new cells are the same
  pub extended-same : (i : ℕ) (rows : List Row) → Each Good rows → extended_from new i rows ≡ extended_from other i rows
  extended-same i [] e = refl
  extended-same i (row ∷ rest) e =
      ap₂ (λ (cell : Cell) (l : List Row). record { cells = row.cells ++ (cell ∷ []); mark = row.mark } ∷ l) (same i row e.0) (extended-same (suc i) rest e.1)
