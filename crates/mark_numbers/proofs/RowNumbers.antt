-- The rows' numbers, one by one. Assumes nothing.
use Prim.Native.Nat.{ℕ, zero, suc, ◌+◌, ◌-◌, ◌≤◌, ◌<◌}
use mathlib.Core.Path.{◌≡◌, refl, sym, ap, ◌∙◌}
use mathlib.Core.List.{List, [], ◌∷◌, ◌++◌, append_assoc}
use native.Mathlib.Nat.{add-zero, zero-add}
use native.Mathlib.Numerals.{add-one}
use native.Mathlib.Omega.{arith}
use lib.ListN.{length, get_or, set, take, drop, replicate, get_or-append, length-drop}
use lib.Seq.{set_at, length-take-le}
use borrow.Author.Tests.{le-leb}
use Rattle.cells.proofs.CellLaws.{le-within}
use Rattle.mark_numbers.specs.promises.Numbers.{first_of, firsts_from, numbers_upto, numbers_at}

module _ (marks : List ℕ) where
  firsts-length : (row n : ℕ) → length (firsts_from marks row n) ≡ n
  firsts-length row zero = refl
  firsts-length row (suc n) = ap suc (firsts-length (suc row) n)

  firsts-last : (row n : ℕ) → firsts_from marks row (suc n) ≡ firsts_from marks row n ++ (first_of marks (row + n) ∷ [])
  firsts-last row zero = rw add-zero
  firsts-last row (suc n) = let e : row + suc n ≡ suc row + n = omega arith in rw e (ap (λ (l : List ℕ). first_of marks row ∷ l) (firsts-last (suc row) n))

  -- one row more has its number
  pub one_number : (row first : ℕ) → row < 256 → first ≡ first_of marks row → set (numbers_upto marks row) row first ≡ numbers_upto marks (row + 1)
  one_number row first h is =
      let done = firsts_from marks 0 row in
      let zeros : List ℕ = replicate (256 - (row + 1)) 0 in
      let left : 256 - row ≡ suc (256 - (row + 1)) = omega arith in
      let more : firsts_from marks 0 (row + 1) ≡ done ++ (first ∷ [])
      = ap (firsts_from marks 0) (add-one row) ∙ firsts-last 0 row ∙ rw (zero-add row, is) in
      rw (left, more) (set_at done 0 zeros first row (firsts-length 0 row) ∙ sym (append_assoc done (first ∷ []) zeros))

  firsts_at : (row n i : ℕ) → i < n → get_or (firsts_from marks row n) i 0 ≡ first_of marks (row + i)
  firsts_at row zero i h = absurd (omega arith)
  firsts_at row (suc n) zero h = rw add-zero
  firsts_at row (suc n) (suc i) h = let e : row + suc i ≡ suc row + i = omega arith in rw e (firsts_at (suc row) n i (omega arith))

-- the numbers of rows within the slice, and that of one row
module _ (marks : List ℕ) (at rows : ℕ) (few : rows ≤ 256) (fit : at + rows ≤ length marks) where
  pub numbers-is : numbers_at marks at rows ≡ numbers_upto (take rows (drop at marks)) rows
  unfolding numbers_at
  numbers-is =
      let many : length (take rows (drop at marks)) ≡ rows = length-take-le rows (drop at marks) (omega (arith, length-drop at marks)) in
      rw (le-leb rows 256 few, le-within at rows (length marks) fit) (ap (numbers_upto (take rows (drop at marks))) many)

  pub number_at : (row : ℕ) → row < rows → get_or (numbers_at marks at rows) row 0 ≡ first_of (take rows (drop at marks)) row
  number_at row h =
      let own = take rows (drop at marks) in
      rw numbers-is
      (get_or-append (firsts_from own 0 rows) (replicate (256 - rows) 0) 0 row (omega (arith, firsts-length own 0 rows)) ∙ firsts_at own 0 rows row h ∙ rw (zero-add row))
