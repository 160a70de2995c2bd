-- A group is its leader, and the later rows that have the leader for the first row with their keys. Assumes nothing.
use Prim.Native.Nat.{ℕ, zero, suc, ◌+◌, ◌-◌, ◌<◌}
use mathlib.Core.Path.{◌≡◌, refl, sym, ap, ◌∙◌}
use mathlib.Core.Bool.{false, cond}
use mathlib.Core.List.{List, [], ◌∷◌, ◌++◌, append_assoc}
use native.Mathlib.Omega.{arith}
use lib.Dec.{eqb}
use lib.ListN.{length, get_or, take, drop, length-drop}
use lib.Seq.{take-nil}
use Rattle.chains.specs.promises.Chains.{leaders_after}
use Rattle.group.specs.promises.Members.{chosen}
use Rattle.plan.specs.Filter.{passing}
use Rattle.plan.specs.Group.{same_keys, any_same, groups_after}
use Rattle.plan.specs.Table.{Row}
use Rattle.chains.proofs.Leaders.{leads, leaders-drop, here, before, as_many, new-leader, old-leader}

-- ---- lists

module _ {A : Type 0} where
  chosen-take : (number : ℕ) (numbers : List ℕ) (list : List A) → chosen number (take (length list) numbers) list ≡ chosen number numbers list
  chosen-take number numbers [] = refl
  chosen-take number [] (x ∷ list) = refl
  chosen-take number (n ∷ numbers) (x ∷ list) = ap (λ (l : List A). cond (eqb n number) (x ∷ l) l) (chosen-take number numbers list)

  drop-take : (i n : ℕ) (list : List A) → drop i (take n list) ≡ take (n - i) (drop i list)
  drop-take zero n list = let e : n - 0 ≡ n = omega arith in ap (λ (k : ℕ). take k list) (sym e)
  drop-take (suc i) zero list = let e : 0 - suc i ≡ 0 = omega arith in ap (λ (k : ℕ). take k (drop (suc i) list)) (sym e)
  drop-take (suc i) (suc n) [] = sym (take-nil (suc n - suc i))
  drop-take (suc i) (suc n) (x ∷ list) = let e : suc n - suc i ≡ n - i = omega arith in drop-take i n list ∙ ap (λ (k : ℕ). take k (drop i list)) (sym e)

module _ (keys columns : ℕ) where
  followers : (leader : Row) (earlier more rest : List Row) → any_same keys columns leader earlier ≡ false
      → chosen (length earlier) (leaders_after keys columns (earlier ++ (leader ∷ more)) rest) rest ≡ passing (same_keys keys columns leader) rest
  followers leader earlier more [] new = refl
  followers leader earlier more (row ∷ rest) new =
      let ih : chosen (length earlier) (leaders_after keys columns ((earlier ++ (leader ∷ more)) ++ (row ∷ [])) rest) rest ≡ passing (same_keys keys columns leader) rest
      = ap (λ (l : List Row). chosen (length earlier) (leaders_after keys columns l rest) rest) (append_assoc earlier (leader ∷ more) (row ∷ [])) ∙ followers leader earlier (more ++ (row ∷ [])) rest new in
      rw (leads keys columns leader row earlier more new, ih)

-- ---- one row of a table whose leaders are known

module _ (keys columns : ℕ) (rows : List Row) (leaders : List ℕ) (known : take (length rows) leaders ≡ leaders_after keys columns [] rows) (i : ℕ) (row : Row) (h : i < length rows)
    (is : get_or rows i row ≡ row) where
  led : any_same keys columns row (take i rows) ≡ false → chosen i (drop (i + 1) leaders) (drop (i + 1) rows) ≡ passing (same_keys keys columns row) (drop (i + 1) rows)
  led new =
      let n : length rows - (i + 1) ≡ length (drop (i + 1) rows) = sym (length-drop (i + 1) rows) in
      let numbers : take (length (drop (i + 1) rows)) (drop (i + 1) leaders) ≡ leaders_after keys columns (take i rows ++ (row ∷ [])) (drop (i + 1) rows)
      = ap (λ (k : ℕ). take k (drop (i + 1) leaders)) (sym n) ∙ sym (drop-take (i + 1) (length rows) leaders) ∙ ap (drop (i + 1)) known ∙ leaders-drop keys columns [] rows (i + 1)
      ∙ ap (λ (l : List Row). leaders_after keys columns l (drop (i + 1) rows)) (before keys columns rows leaders known i row h is) in
      sym (chosen-take i (drop (i + 1) leaders) (drop (i + 1) rows)) ∙ ap (λ (l : List ℕ). chosen i l (drop (i + 1) rows)) numbers
      ∙ ap (λ (k : ℕ). chosen k (leaders_after keys columns (take i rows ++ (row ∷ [])) (drop (i + 1) rows)) (drop (i + 1) rows)) (sym (as_many keys columns rows leaders known i row h is))
      ∙ followers keys columns row (take i rows) [] (drop (i + 1) rows) new

  -- a leader's group stands next among the groups that are left
  pub group-next : get_or leaders i 0 ≡ i → groups_after keys columns (take i rows) (drop i rows)
      ≡ (row ∷ chosen i (drop (i + 1) leaders) (drop (i + 1) rows)) ∷ groups_after keys columns (take (i + 1) rows) (drop (i + 1) rows)
  group-next e = let new = new-leader keys columns rows leaders known i row h is e in rw (here keys columns rows leaders known i row h is, new, led new, before keys columns rows leaders known i row h is)

  pub group-none : (get_or leaders i 0 ≡ i → ⊥) → groups_after keys columns (take i rows) (drop i rows) ≡ groups_after keys columns (take (i + 1) rows) (drop (i + 1) rows)
  group-none n = rw (here keys columns rows leaders known i row h is, old-leader keys columns rows leaders known i row h is n, before keys columns rows leaders known i row h is)
