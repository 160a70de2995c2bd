-- The test of the keys' labels. Assumes nothing.
use Prim.Native.Nat.{ℕ, zero, suc, ◌+◌, ◌*◌, ◌%◌, ◌^◌, ◌≤◌, ◌<◌}
use mathlib.Core.Path.{◌≡◌, refl, sym, ap, ◌∙◌}
use mathlib.Core.Bool.{Bool, true, false, not, ◌&&◌, true≢false}
use mathlib.Core.List.{List, [], ◌∷◌}
use mathlib.Core.Logic.{◌⊎◌, inl, inr, ⊎_elim}
use native.Mathlib.Omega.{arith}
use lib.Dec.{eqb}
use lib.ListN.{length, take, drop}
use borrow.Author.Tests.{le-leb}
use Rattle.pairs.specs.promises.Pairs.{side_labels}
use Rattle.pairs.specs.declared.Side.{Side}
use Rattle.plan.specs.Masks.{in_mask}
use Rattle.cells.specs.promises.Cells.{grid_of}
use Rattle.cells.specs.promises.Search.{place_says, not_clear_at, says}
use Rattle.std.specs.Prelude.{Option, Some, None, Result, Ok, is_some}
use Rattle.cells.specs.declared.At.{At}
use Rattle.cells.specs.declared.DoesNotFit.{DoesNotFit}
use Rattle.plan.specs.Table.{clear}
use Rattle.plan.specs.Verdict.{Verdict, fine, refused, or_else, refuse_if, first_not_clear, not_clear}
use Rattle.cells.proofs.CellLaws.{le-within}
use Rattle.cells.proofs.Masks.{one-column}
use Rattle.memory.proofs.Finish.{says_is}
use Rattle.cells.proofs.Wanted.{search-same}

-- ---- a search in the key column of a table

pub key-search : (labels : List ℕ) (side : Side) (first : ℕ) (p : Result (Option At) DoesNotFit) → side.table.rows ≤ 256 → side.table.columns ≤ 8 → side.key < side.table.columns → side.table.at + side.table.rows * side.table.columns ≤ length labels
    → place_says 31 first p ≡ not_clear_at 31 first labels side.table.at side.table.rows side.table.columns (1 * 2 ^ side.key % 2 ^ 32)
    → place_says 31 first p ≡ says (not_clear (λ c. eqb c side.key) 31 first (side_labels labels side))
key-search labels side first p r c k h e =
    e ∙ rw (le-leb side.table.rows 256 r, le-leb side.table.columns 8 c, le-within side.table.at (side.table.rows * side.table.columns) (length labels) h)
    (ap says (search-same (in_mask (1 * 2 ^ side.key % 2 ^ 32)) (λ c. eqb c side.key) (λ i l. one-column side.key i (omega arith) l) 31 side.table.columns side.table.rows first (drop side.table.at labels) c))

pub grid-length : (columns rows : ℕ) (labels : List ℕ) → length (grid_of columns rows labels) ≡ rows
grid-length columns zero labels = refl
grid-length columns (suc rows) labels = ap suc (grid-length columns rows (drop columns labels))

-- a cell that is found stands in a row of the table
module _ (wanted : ℕ → Bool) (number : ℕ) where
  in_row : (column row : ℕ) (labels : List ℕ) → (first_not_clear wanted number column row labels ≡ fine) ⊎ ((c : ℕ) × (first_not_clear wanted number column row labels ≡ refused number row c))
  in_row column row [] = inl refl
  in_row column row (label ∷ rest) = either (wanted column && not (clear label)) (in_row (suc column) row rest)
    where
      either : (b : Bool) {later : Verdict} → (later ≡ fine) ⊎ ((c : ℕ) × (later ≡ refused number row c))
          → (or_else (refuse_if b number row column) later ≡ fine) ⊎ ((c : ℕ) × (or_else (refuse_if b number row column) later ≡ refused number row c))
      either true h = inr (column, refl)
      either false h = h

  pub in_rows : (columns rows row : ℕ) (labels : List ℕ) {n r c : ℕ} → not_clear wanted number row (grid_of columns rows labels) ≡ refused n r c → r < row + rows
  in_rows columns zero row labels e = absurd (let z : ◌≡◌ {A = ℕ} 0 1 = cc in omega arith)
  in_rows columns (suc rows) row labels {n} {r} {c} e =
      ⊎_elim
      (λ f. omega (arith, in_rows columns rows (suc row) (drop columns labels) (rw f at e)))
      (λ f. let same : row ≡ r = cc in omega arith)
      (in_row 0 row (take columns labels))

-- ---- the cells that are answered

pub first-stands : (first : Option At) (v w : Verdict) → true ≡ is_some first → place_says 31 0 (Ok first) ≡ says v → place_says 31 0 (Ok first) ≡ says (or_else v w)
first-stands (Some at) v w t e = rw (← says_is e)
first-stands None v w t e = absurd (true≢false t)

pub none-left : (first : Option At) → false ≡ is_some first → first ≡ None
none-left (Some at) t = absurd (true≢false (sym t))
none-left None t = refl
