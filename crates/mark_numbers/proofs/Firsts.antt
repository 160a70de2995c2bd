-- The first row with a mark. Assumes nothing.
use Prim.Native.Nat.{ℕ, zero, suc, ◌≤◌, ◌<◌}
use mathlib.Core.Path.{◌≡◌, refl, sym, ap}
use mathlib.Core.Bool.{Bool, true, false, cond}
use mathlib.Core.List.{List, [], ◌∷◌}
use native.Mathlib.Nat.{add_comm}
use native.Mathlib.Numerals.{add-one}
use native.Mathlib.Omega.{arith}
use lib.Dec.{eqb}
use lib.ListN.{length, get_or}
use borrow.Author.Tests.{lt-ltb, eqb-true, eq-eqb, ne_eqb}
use Rattle.std.specs.List.{position, position_or_len}
use Rattle.std.specs.Prelude.{unwrap_or}
use Rattle.std.proofs.lemmas.List.Recursion.{is_position_or_len}
use Rattle.mark_numbers.specs.promises.Numbers.{first_same, first_of}

module _ (mark : ℕ) where
  same-at : (marks : List ℕ) (i : ℕ) → i < length marks → get_or marks i 0 ≡ mark → ((j : ℕ) → j < i → get_or marks j 0 ≡ mark → ⊥) → first_same mark marks ≡ i
  same-at [] i h e none = absurd (omega arith)
  same-at (first ∷ rest) zero h e none = rw (eq-eqb first mark e)
  same-at (first ∷ rest) (suc i) h e none = rw (ne_eqb first mark (none 0 (omega arith))) (ap suc (same-at rest i (omega arith) e (λ j k. none (suc j) (omega arith))))

  -- where some mark is this one, the first such is one, and no later
  same-upto : (marks : List ℕ) (i : ℕ) → i < length marks → get_or marks i 0 ≡ mark → (first_same mark marks ≤ i) × (get_or marks (first_same mark marks) 0 ≡ mark)
  same-upto [] i h e = absurd (omega arith)
  same-upto (first ∷ rest) zero h e = rw (eq-eqb first mark e) (omega arith, e)
  same-upto (first ∷ rest) (suc i) h e = go (eqb first mark) refl (same-upto rest i (omega arith) e)
    where
      go : (b : Bool) → eqb first mark ≡ b → (first_same mark rest ≤ i) × (get_or rest (first_same mark rest) 0 ≡ mark)
          → (cond b 0 (suc (first_same mark rest)) ≤ suc i) × (get_or (first ∷ rest) (cond b 0 (suc (first_same mark rest))) 0 ≡ mark)
      go true t s = (omega arith, eqb-true first mark t)
      go false t s = (omega arith, s.1)

  -- and the search that compares each mark finds it
  searched : (marks : List ℕ) (i default : ℕ) → i < length marks → get_or marks i 0 ≡ mark → unwrap_or (position (λ other. eqb other mark) marks) default ≡ first_same mark marks
  searched marks i default h e =
      let place : position_or_len (λ other. eqb other mark) marks ≡ first_same mark marks
      = sym (is_position_or_len (first_same mark) (λ other. eqb other mark) refl (λ first rest. rw (add_comm 1 (first_same mark rest), add-one (first_same mark rest))) marks) in
      rw (place, lt-ltb (first_same mark marks) (length marks) (omega (arith, (same-upto marks i h e).0)))

-- the rows up to one
module _ (marks : List ℕ) (row : ℕ) (h : row < length marks) where
  abbrev mark : ℕ → ℕ
  mark other = get_or marks other 0

  upto : (first_of marks row ≤ row) × (mark (first_of marks row) ≡ mark row)
  upto = same-upto (mark row) marks row h refl

  pub first-upto : first_of marks row ≤ row
  first-upto = upto.0

  pub first-mark : mark (first_of marks row) ≡ mark row
  first-mark = upto.1

  pub first_placed : unwrap_or (position (λ other. eqb other (mark row)) marks) row ≡ first_of marks row
  first_placed = searched (mark row) marks row row h refl

  -- the first row with a mark is the first with its own
  pub first-own : first_of marks (first_of marks row) ≡ first_of marks row
  first-own = ap (λ (m : ℕ). first_same m marks) first-mark

  pub first-here : (other : ℕ) → other ≤ row → mark other ≡ mark row → ((j : ℕ) → j < other → mark j ≡ mark row → ⊥) → first_of marks row ≡ other
  first-here other k e none = same-at (mark row) marks other (omega arith) e none
