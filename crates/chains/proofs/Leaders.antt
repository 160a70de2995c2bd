-- The first row with the keys of a row, which leads it. Assumes nothing.
use Prim.Native.Nat.{ℕ, zero, suc, ◌+◌, ◌≤◌, ◌<◌}
use mathlib.Core.Path.{◌≡◌, refl, sym, ap, ap₂, ◌∙◌}
use mathlib.Core.Bool.{Bool, true, false, cond, ◌||◌, true≢false, false≢true}
use mathlib.Core.List.{List, [], ◌∷◌, ◌++◌, append-nil, append_assoc}
use native.Mathlib.Nat.{add-zero}
use native.Mathlib.Numerals.{add-one}
use native.Mathlib.Omega.{arith}
use lib.Dec.{eqb}
use lib.ListN.{length, get_or, take, drop}
use lib.Seq.{drop-cons, take-suc, get_or-take, get_or-drop, length-take-le}
use borrow.Author.Tests.{eq-eqb, ne_eqb}
use Rattle.chains.specs.promises.Chains.{first_same, leaders_after}
use Rattle.plan.specs.Group.{same_keys, any_same}
use Rattle.plan.specs.Table.{Row}
use Rattle.plan.proofs.SenseGroups.{same-keys-sym, same-keys-trans}

module _ (keys columns : ℕ) where
  -- ---- the first row with the keys of a row

  pub first-none : (row : Row) (earlier more : List Row) → any_same keys columns row earlier ≡ false → first_same keys columns row (earlier ++ more) ≡ length earlier + first_same keys columns row more
  first-none row [] more e = omega arith
  first-none row (other ∷ rest) more e = go (same_keys keys columns other row) e (first-none row rest more)
    where
      go : (b : Bool) → (b || any_same keys columns row rest) ≡ false → (any_same keys columns row rest ≡ false → first_same keys columns row (rest ++ more) ≡ length rest + first_same keys columns row more)
          → cond b 0 (suc (first_same keys columns row (rest ++ more))) ≡ suc (length rest) + first_same keys columns row more
      go true f ih = absurd (true≢false f)
      go false f ih = omega (arith, ih f)

  first_some : (row : Row) (earlier more : List Row) → any_same keys columns row earlier ≡ true → first_same keys columns row (earlier ++ more) < length earlier
  first_some row [] more e = absurd (false≢true e)
  first_some row (other ∷ rest) more e = go (same_keys keys columns other row) e (first_some row rest more)
    where
      go : (b : Bool) → (b || any_same keys columns row rest) ≡ true → (any_same keys columns row rest ≡ true → first_same keys columns row (rest ++ more) < length rest)
          → cond b 0 (suc (first_same keys columns row (rest ++ more))) < suc (length rest)
      go true f ih = omega arith
      go false f ih = omega (arith, ih f)

  first-upto : (row : Row) (rows : List Row) → first_same keys columns row rows ≤ length rows
  first-upto row [] = omega arith
  first-upto row (other ∷ rest) = go (same_keys keys columns other row) (first-upto row rest)
    where
      go : (b : Bool) → first_same keys columns row rest ≤ length rest → cond b 0 (suc (first_same keys columns row rest)) ≤ suc (length rest)
      go true h = omega arith
      go false h = omega arith

  -- a row with the keys of another one is met before where that one is
  pub met-before : (a b : Row) (earlier : List Row) → same_keys keys columns a b ≡ true → any_same keys columns b earlier ≡ true → any_same keys columns a earlier ≡ true
  met-before a b [] s e = e
  met-before a b (other ∷ rest) s e = go (same_keys keys columns other b) (same_keys keys columns other a) (λ f. same-keys-trans keys columns other b a f (same-keys-sym keys columns a b s)) e (met-before a b rest s)
    where
      go : (x y : Bool) → (x ≡ true → y ≡ true) → (x || any_same keys columns b rest) ≡ true → (any_same keys columns b rest ≡ true → any_same keys columns a rest ≡ true) → (y || any_same keys columns a rest) ≡ true
      go true y f g ih = rw (f refl)
      go false true f g ih = refl
      go false false f g ih = ih g

  -- a leader is the first row with the keys of a later one if those are its keys
  pub leads : (leader row : Row) (earlier more : List Row) → any_same keys columns leader earlier ≡ false
      → eqb (first_same keys columns row (earlier ++ (leader ∷ more))) (length earlier) ≡ same_keys keys columns leader row
  leads leader row earlier more new = go (any_same keys columns row earlier) refl (same_keys keys columns leader row) refl
    where
      go : (b : Bool) → any_same keys columns row earlier ≡ b → (s : Bool) → same_keys keys columns leader row ≡ s → eqb (first_same keys columns row (earlier ++ (leader ∷ more))) (length earlier) ≡ s
      go true e true f = absurd (true≢false (sym (met-before leader row earlier f e) ∙ new))
      go true e false f = ne_eqb _ _ (λ (x : first_same keys columns row (earlier ++ (leader ∷ more)) ≡ length earlier). omega (arith, first_some row earlier (leader ∷ more) e))
      go false e true f = eq-eqb _ _ (first-none row earlier (leader ∷ more) e ∙ rw f (add-zero (length earlier)))
      go false e false f = ne_eqb _ _ (λ (x : first_same keys columns row (earlier ++ (leader ∷ more)) ≡ length earlier). let y : first_same keys columns row (leader ∷ more) ≡ suc (first_same keys columns row more) = rw f in omega (arith, first-none row earlier (leader ∷ more) e))

  pub leaders-drop : (earlier rows : List Row) (i : ℕ) → drop i (leaders_after keys columns earlier rows) ≡ leaders_after keys columns (earlier ++ take i rows) (drop i rows)
  leaders-drop earlier rows zero = ap (λ (l : List Row). leaders_after keys columns l rows) (sym (append-nil earlier))
  leaders-drop earlier [] (suc i) = refl
  leaders-drop earlier (row ∷ rows) (suc i) = leaders-drop (earlier ++ (row ∷ [])) rows i ∙ ap (λ (l : List Row). leaders_after keys columns l (drop i rows)) (append_assoc earlier (row ∷ []) (take i rows))

-- ---- one row of a table whose leaders are known

module _ (keys columns : ℕ) (rows : List Row) (leaders : List ℕ) (known : take (length rows) leaders ≡ leaders_after keys columns [] rows) (i : ℕ) (row : Row) (h : i < length rows)
    (is : get_or rows i row ≡ row) where
  pub here : drop i rows ≡ row ∷ drop (i + 1) rows
  here = drop-cons rows i row h ∙ ap₂ (λ (x : Row) (n : ℕ). x ∷ drop n rows) is (sym (add-one i))

  pub before : take (i + 1) rows ≡ take i rows ++ (row ∷ [])
  before = ap (λ (n : ℕ). take n rows) (add-one i) ∙ take-suc rows i row h ∙ ap (λ (x : Row). take i rows ++ (x ∷ [])) is

  pub as_many : length (take i rows) ≡ i
  as_many = length-take-le i rows (omega arith)

  leader-is : get_or leaders i 0 ≡ first_same keys columns row (take i rows)
  leader-is =
      let l = leaders_after keys columns [] rows in
      sym (get_or-take (length rows) leaders i 0 h) ∙ ap (λ (l : List ℕ). get_or l i 0) known ∙ ap (λ (n : ℕ). get_or l n 0) (sym (add-zero i)) ∙ sym (get_or-drop i l 0 0)
      ∙ ap (λ (l : List ℕ). get_or l 0 0) (leaders-drop keys columns [] rows i ∙ ap (leaders_after keys columns (take i rows)) here)

  pub leader-upto : get_or leaders i 0 ≤ i
  leader-upto = omega (arith, leader-is, first-upto keys columns row (take i rows), as_many)

  pub new-leader : get_or leaders i 0 ≡ i → any_same keys columns row (take i rows) ≡ false
  new-leader e = go (any_same keys columns row (take i rows)) refl
    where
      go : (b : Bool) → any_same keys columns row (take i rows) ≡ b → b ≡ false
      go true f = absurd (omega (arith, as_many, leader-is, ap (first_same keys columns row) (append-nil (take i rows)), first_some keys columns row (take i rows) [] f))
      go false f = refl

  pub old-leader : (get_or leaders i 0 ≡ i → ⊥) → any_same keys columns row (take i rows) ≡ true
  old-leader n = go (any_same keys columns row (take i rows)) refl
    where
      go : (b : Bool) → any_same keys columns row (take i rows) ≡ b → b ≡ true
      go true f = refl
      go false f = absurd (n (leader-is ∙ sym (ap (first_same keys columns row) (append-nil (take i rows))) ∙ first-none keys columns row (take i rows) [] f ∙ omega (arith, as_many)))
