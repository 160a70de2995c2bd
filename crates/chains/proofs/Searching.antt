-- The search for the first row with the keys of a row. It passes over the rows that lead no group. Assumes nothing.
use Prim.Native.Nat.{ℕ, zero, suc, ◌+◌, ◌*◌, ◌≤◌, ◌<◌}
use mathlib.Core.Path.{◌≡◌, refl, sym, ap, ◌∙◌}
use mathlib.Core.Bool.{Bool, true, false, ◌||◌, true≢false}
use mathlib.Core.List.{List, [], ◌∷◌, ◌++◌, append-nil}
use native.Mathlib.Nat.{add-zero}
use native.Mathlib.Numerals.{add-one}
use native.Mathlib.Omega.{arith}
use lib.Dec.{eqb}
use lib.ListN.{length, get_or, take, drop}
use lib.Seq.{drop-drop, split_at, length-take-le}
use borrow.Author.Tests.{eqb-true, eqb-false}
use Rattle.cells.specs.promises.Cells.{bare_row, bare_rows, row_from}
use Rattle.chains.specs.promises.Chains.{first_same, leaders_after}
use Rattle.plan.specs.Group.{same_keys, any_same}
use Rattle.plan.specs.Table.{Cell, Row}
use Rattle.chains.proofs.Leaders.{first-none, met-before, leads, before, new-leader, old-leader}
use Rattle.cells.proofs.Rows.{row_at, rows-length}
use Rattle.plan.proofs.SenseGroups.{same-keys-sym}

module _ (keys columns : ℕ) (row : Row) where
  none_last : (rows : List Row) (other : Row) → any_same keys columns row rows ≡ false → same_keys keys columns other row ≡ false → any_same keys columns row (rows ++ (other ∷ [])) ≡ false
  none_last [] other e f = rw f
  none_last (first ∷ rows) other e f = go (same_keys keys columns first row) e (none_last rows other)
    where
      go : (b : Bool) → (b || any_same keys columns row rows) ≡ false → (any_same keys columns row rows ≡ false → same_keys keys columns other row ≡ false → any_same keys columns row (rows ++ (other ∷ [])) ≡ false)
          → (b || any_same keys columns row (rows ++ (other ∷ []))) ≡ false
      go true g ih = g
      go false g ih = ih g f

  -- no row has the keys
  pub none-same : (rows : List Row) → any_same keys columns row rows ≡ false → first_same keys columns row rows ≡ length rows
  none-same rows e = sym (ap (first_same keys columns row) (append-nil rows)) ∙ first-none keys columns row rows [] e ∙ add-zero (length rows)

-- the rows of a table before a row, whose leaders are known
module _ (keys columns rows at : ℕ) (row : Row) (memory : List Cell) (leaders : List ℕ) (known : take rows leaders ≡ leaders_after keys columns [] (bare_rows columns rows (drop at memory))) where
  abbrev table : List Row
  table = bare_rows columns rows (drop at memory)

  abbrev row_other : ℕ → Row
  row_other other = row_from columns memory (at + other * columns)

  all_known : take (length table) leaders ≡ leaders_after keys columns [] table
  all_known = rw (rows-length columns rows (drop at memory)) known

  module _ (other : ℕ) (h : other < rows) where
    inside : other < length table
    inside = rw (rows-length columns rows (drop at memory)) h

    is : get_or table other (row_other other) ≡ row_other other
    is = row_at columns rows other (drop at memory) (row_other other) h ∙ ap (λ (l : List Cell). bare_row (take columns l)) (drop-drop (other * columns) at memory)

    -- a leader with the row's keys is the first row with them
    pub leader-first : get_or leaders other 0 ≡ other → same_keys keys columns (row_other other) row ≡ true → first_same keys columns row table ≡ other
    leader-first e s =
        let new = new-leader keys columns table leaders all_known other (row_other other) inside is e in
        let split : table ≡ take other table ++ (row_other other ∷ drop (suc other) table) = split_at table other (row_other other) inside ∙ ap (λ (x : Row). take other table ++ (x ∷ drop (suc other) table)) is in
        ap (first_same keys columns row) split ∙ eqb-true _ _ (leads keys columns (row_other other) row (take other table) (drop (suc other) table) new ∙ s) ∙ length-take-le other table (omega (arith, inside))

    module _ (none : any_same keys columns row (take other table) ≡ false) where
      search-on : same_keys keys columns (row_other other) row ≡ false → any_same keys columns row (take (other + 1) table) ≡ false
      search-on e = rw (before keys columns table leaders all_known other (row_other other) inside is) (none_last keys columns row (take other table) (row_other other) none e)

      -- a row that leads no group has its leader's keys
      search-past : (get_or leaders other 0 ≡ other → ⊥) → any_same keys columns row (take (other + 1) table) ≡ false
      search-past n = search-on (go (same_keys keys columns (row_other other) row) refl)
        where
          go : (b : Bool) → same_keys keys columns (row_other other) row ≡ b → b ≡ false
          go true e = absurd (true≢false (sym (met-before keys columns row (row_other other) (take other table) (same-keys-sym keys columns (row_other other) row e) (old-leader keys columns table leaders all_known other (row_other other) inside is n)) ∙ none))
          go false e = refl

  -- no row has the keys if no leader has
  pub none_before : ((other : ℕ) → other < rows → get_or leaders other 0 ≡ other → same_keys keys columns (row_other other) row ≡ false) → (n : ℕ) → n ≤ rows → any_same keys columns row (take n table) ≡ false
  none_before differ zero h = refl
  none_before differ (suc n) h = rw (← (add-one n)) (go (eqb (get_or leaders n 0) n) refl (none_before differ n (omega arith)))
    where
      go : (b : Bool) → eqb (get_or leaders n 0) n ≡ b → any_same keys columns row (take n table) ≡ false → any_same keys columns row (take (n + 1) table) ≡ false
      go true e none = search-on n h none (differ n h (eqb-true _ _ e))
      go false e none = search-past n h none (eqb-false _ _ e)
