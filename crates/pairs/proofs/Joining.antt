-- The rows of a join as lists: what each row more makes. Assumes nothing.
use Prim.Native.Nat.{ℕ, zero, suc, ◌+◌, ◌-◌, ◌*◌, ◌≤◌, ◌<◌}
use mathlib.Core.Path.{◌≡◌, refl, sym, ap, ◌∙◌}
use mathlib.Core.Bool.{Bool, true, false, cond}
use mathlib.Core.List.{List, [], ◌∷◌, ◌++◌, append_assoc, append-nil}
use native.Mathlib.Nat.{add-zero, add-suc, le_refl}
use native.Mathlib.Omega.{arith}
use lib.ListN.{length, take, drop, length-append}
use borrow.Author.Tests.{lt-ltb}
use Rattle.plan.specs.Join.{matches, joined_row, joined_to, joined_rows, joined}
use Rattle.plan.specs.Steps.{make}
use Rattle.plan.specs.Supply.{supplied}
use Rattle.plan.specs.Table.{Cell, Row, Table, Each}
use Rattle.plan.specs.Widths.{columns_exist}
use Rattle.plan.specs.declared.Step.TheVariants.{Join}
use Rattle.cells.specs.promises.Cells.{bare_row, bare_rows, Wide}
use Rattle.cells.proofs.Rows.{rows-more}
use Rattle.plan.proofs.SenseShape.{made_shaped}

-- ---- rows made of a list of rows, part by part

module _ (a b : ℕ) where
  pub to-add : (left : Row) (xs ys : List Row) → joined_to a b left (xs ++ ys) ≡ joined_to a b left xs ++ joined_to a b left ys
  to-add left [] ys = refl
  to-add left (x ∷ xs) ys = ap (λ (rest : List Row). cond (matches a b left x) (joined_row b left x ∷ rest) rest) (to-add left xs ys) ∙ either (matches a b left x) (joined_row b left x) (joined_to a b left xs)
    where
      either : (t : Bool) (row : Row) (rest : List Row) → cond t (row ∷ (rest ++ joined_to a b left ys)) (rest ++ joined_to a b left ys) ≡ cond t (row ∷ rest) rest ++ joined_to a b left ys
      either true row rest = refl
      either false row rest = refl

  pub rows-add : (rights xs ys : List Row) → joined_rows a b (xs ++ ys) rights ≡ joined_rows a b xs rights ++ joined_rows a b ys rights
  rows-add rights [] ys = refl
  rows-add rights (x ∷ xs) ys =
      ap (λ (rest : List Row). joined_to a b x rights ++ rest) (rows-add rights xs ys) ∙ sym (append_assoc (joined_to a b x rights) (joined_rows a b xs rights) (joined_rows a b ys rights))

module _ (made : List Row → List Row) (add : (xs ys : List Row) → made (xs ++ ys) ≡ made xs ++ made ys) (w : ℕ) (cells : List Cell) where
  pub row_more : (n : ℕ) → made (bare_rows w (suc n) cells) ≡ made (bare_rows w n cells) ++ made (bare_row (take w (drop (n * w) cells)) ∷ [])
  row_more n = ap made (rows-more w n cells) ∙ add (bare_rows w n cells) _

  pub fewer : (n k : ℕ) → length (made (bare_rows w n cells)) ≤ length (made (bare_rows w (n + k) cells))
  fewer n zero = rw add-zero (le_refl _)
  fewer n (suc k) = rw (add-suc n k, row_more (n + k), length-append) (omega (arith, fewer n k))

-- ---- the width of the rows

pub rows-joined-wide : (a b n m : ℕ) → a < n → b < m → (lefts rights : List Row) → Each (Wide n) lefts → Each (Wide m) rights → Each (Wide (n + (m - 1))) (joined_rows a b lefts rights)
unfolding make joined columns_exist
rows-joined-wide a b n m h k lefts rights l r =
    let left : Table = record { columns = n; rows = lefts } in
    let right : Table = record { columns = m; rows = rights } in
    (made_shaped (Join a b) (supplied [] []) (right ∷ left ∷ []) (rw (lt-ltb a n h, lt-ltb b m k)) tt (r, (l, tt))).0

pub to-joined-wide : (a b n m : ℕ) → a < n → b < m → (left : Row) (rights : List Row) → Wide n left → Each (Wide m) rights → Each (Wide (n + (m - 1))) (joined_to a b left rights)
to-joined-wide a b n m h k left rights l r = rw append-nil at (rows-joined-wide a b n m h k (left ∷ []) rights (l, tt) r)
