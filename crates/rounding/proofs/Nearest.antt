-- The number taken is the nearest to v / n, the even one of two, and the only one that is.
-- Assumes nothing.
use mathlib.Core.Path.{◌≡◌, refl, sym, ap, ◌∙◌}
use mathlib.Core.Logic.{◌⊎◌, inl, inr}
use mathlib.Core.Bool.{Bool, true, false, not, cond, ◌&&◌, ◌||◌, true≢false, false≢true}
use Prim.Native.Nat.{ℕ, zero, suc, ◌+◌, ◌-◌, ◌*◌, ◌%◌, ◌≤◌, ◌<◌}
use native.Mathlib.Nat.{mul-suc, le_of_eq, le_antisymm}
use native.Mathlib.Omega.{arith}
use lib.Dec.{eqb, ltb}
use lib.IntN.{ℤ, pos, negsuc, nat_abs, suc_ℤ, ◌+ℤ◌, ◌-ℤ◌, +ℤ_idr, +ℤ_one, +ℤ_comm, -ℤ-+ℤ_cancel}
use lib.Signed.{shr_z}
use borrow.Author.Tests.{ltb-true, ltb-false, eqb-true, eqb-false, eq-eqb, ne_eqb}
use Rattle.value.specs.Division.{floored}
use Rattle.rounding.specs.Rounding.{distance, even, nearer, rounded}
use Rattle.rounding.specs.Sentences.{Nearest}
use Rattle.value.proofs.Folded.{remainder}
use Rattle.rounding.proofs.Distances.{distance-down, distance-up, distance-floor, distance_next, nearer-is}

-- ---- whole numbers

-- every number is q or stands below it, or above it
data Sides (q other : ℤ) : Type 0 where
  lower : (d : ℕ) → other ≡ q -ℤ pos d → Sides q other
  upper : (d : ℕ) → other ≡ q +ℤ pos (suc d) → Sides q other

sides : (q other : ℤ) → Sides q other
sides q other = go (other -ℤ q) (sym (-ℤ-+ℤ_cancel other q) ∙ +ℤ_comm (other -ℤ q) q)
  where
    go : (z : ℤ) → other ≡ q +ℤ z → Sides q other
    go (pos zero) e = lower 0 e
    go (pos (suc d)) e = upper d e
    go (negsuc d) e = lower (suc d) e

not-not : (t : Bool) → not (not t) ≡ t
not-not true = refl
not-not false = refl

-- of two neighbours one is even
even-next : (q : ℤ) → even (q +ℤ pos 1) ≡ not (even q)
unfolding even
even-next q = ap (λ (z : ℤ). eqb (nat_abs z % 2) 0) (+ℤ_one q) ∙ go q
  where
    next : (m : ℕ) → eqb (suc m % 2) 0 ≡ not (eqb (m % 2) 0)
    next m = on (eqb (m % 2) 0) refl
      where
        on : (t : Bool) → eqb (m % 2) 0 ≡ t → eqb (suc m % 2) 0 ≡ not t
        on true e = ne_eqb (suc m % 2) 0 (λ h. omega (arith, eqb-true (m % 2) 0 e))
        on false e = eq-eqb (suc m % 2) 0 (omega (arith, eqb-false (m % 2) 0 e))

    go : (q : ℤ) → eqb (nat_abs (suc_ℤ q) % 2) 0 ≡ not (eqb (nat_abs q % 2) 0)
    go (pos m) = next m
    go (negsuc zero) = refl
    go (negsuc (suc m)) = rw (next (suc m)) (sym (not-not (eqb (suc m % 2) 0)))

-- a is less than b, or they are equal and t holds
won : (a b : ℕ) (t : Bool) → (ltb a b || (eqb a b && t)) ≡ true → (a ≤ b) × (a ≡ b → t ≡ true)
won a b t e = go (ltb a b) refl (eqb a b) refl
  where
    go : (l : Bool) → ltb a b ≡ l → (q : Bool) → eqb a b ≡ q → (a ≤ b) × (a ≡ b → t ≡ true)
    go true f q g = let h = ltb-true a b f in (omega arith, λ k. absurd (omega arith))
    go false f true g = (omega (arith, eqb-true a b g), λ k. rw (f, g) at e)
    go false f false g = absurd (false≢true (rw (f, g) at e))

lost : (a b : ℕ) (t : Bool) → (ltb a b || (eqb a b && t)) ≡ false → (b ≤ a) × (a ≡ b → t ≡ false)
lost a b t e = go (ltb a b) refl (eqb a b) refl
  where
    go : (l : Bool) → ltb a b ≡ l → (q : Bool) → eqb a b ≡ q → (b ≤ a) × (a ≡ b → t ≡ false)
    go true f q g = absurd (true≢false (rw f at e))
    go false f true g = (ltb-false a b f, λ k. rw (f, g) at e)
    go false f false g = (ltb-false a b f, λ k. absurd (eqb-false a b g k))

module _ (v : ℤ) {n : ℕ} (p : 0 < n) where
  -- the two beside v / n
  data Beside (x : ℤ) : Type 0 where
    floor : x ≡ shr_z v n → Beside x
    next : x ≡ shr_z v n +ℤ pos 1 → Beside x

  -- two of them are one, or just one is even, and where they are as near v / n is halfway
  data Pair (x y : ℤ) : Type 0 where
    same : x ≡ y → Pair x y
    apart : even x ≡ not (even y) → (distance v n x ≡ distance v n y → remainder v n ≡ n - remainder v n) → Pair x y

  pair : {x y : ℤ} → Beside x → Beside y → Pair x y
  pair (floor e) (floor f) = same (e ∙ sym f)
  pair (next e) (next f) = same (e ∙ sym f)
  pair (floor e) (next f) = apart (rw (e, f, even-next (shr_z v n)) (sym (not-not (even (shr_z v n))))) (λ h. rw (e, f, distance-floor v p, distance_next v p) at h)
  pair (next e) (floor f) = apart (rw (e, f) (even-next (shr_z v n))) (λ h. sym (rw (e, f, distance-floor v p, distance_next v p) at h))

  -- the one taken
  record Taken (x : ℤ) : Type 0 where
    one : Beside x
    down : distance v n x ≤ remainder v n
    up : distance v n x ≤ n - remainder v n
    tie : remainder v n ≡ n - remainder v n → even x ≡ true

  rounded-taken : Taken (rounded v n)
  unfolding rounded floored
  rounded-taken = go (nearer v n (shr_z v n) (shr_z v n +ℤ pos 1)) refl
    where
      go : (t : Bool) → nearer v n (shr_z v n) (shr_z v n +ℤ pos 1) ≡ t → Taken (cond t (shr_z v n) (shr_z v n +ℤ pos 1))
      go true e =
          let w = won (remainder v n) (n - remainder v n) (even (shr_z v n)) (sym (nearer-is v p) ∙ e) in
          record { one = floor refl; down = le_of_eq (distance-floor v p); up = rw (distance-floor v p) w.0; tie = w.1 }
      go false e =
          let w = lost (remainder v n) (n - remainder v n) (even (shr_z v n)) (sym (nearer-is v p) ∙ e) in
          record { one = next refl; down = rw (distance_next v p) w.0; up = le_of_eq (distance_next v p); tie = λ h. rw (even-next (shr_z v n), w.1 h) }

  none : (d m : ℕ) → m + n * d ≤ m → d ≡ 0
  none zero m h = refl
  none (suc d) m h = absurd (omega (arith, mul-suc n d))

  -- no whole number is nearer, and one that is as near stands beside v / n
  as-near : (other : ℤ) → (distance v n (rounded v n) ≤ distance v n other)
      × (distance v n other ≡ distance v n (rounded v n) → Beside other)
  as-near other = go (sides (shr_z v n) other)
    where
      go : Sides (shr_z v n) other
          → (distance v n (rounded v n) ≤ distance v n other) × (distance v n other ≡ distance v n (rounded v n) → Beside other)
      go (lower d e) =
          let m = ap (distance v n) e ∙ distance-down v p d in
          (omega (arith, rounded-taken.down), λ h. floor (e ∙ rw (none d (remainder v n) (omega (arith, rounded-taken.down))) (+ℤ_idr (shr_z v n))))
      go (upper d e) =
          let m = ap (distance v n) e ∙ distance-up v p d in
          (omega (arith, rounded-taken.up), λ h. next (e ∙ rw (none d (n - remainder v n) (omega (arith, rounded-taken.up)))))

  pub rounded-nearest : Nearest n v (rounded v n)
  rounded-nearest = record { nearest = λ other. (as-near other).0; tie = λ other e. go other e (pair ((as-near other).1 e) rounded-taken.one) }
    where
      go : (other : ℤ) → distance v n other ≡ distance v n (rounded v n) → Pair other (rounded v n) → (other ≡ rounded v n) ⊎ (even (rounded v n) ≡ true)
      go other e (same f) = inl f
      go other e (apart f h) = inr (rounded-taken.tie (h e))

  pub nearest-one : (q : ℤ) → Nearest n v q → q ≡ rounded v n
  nearest-one q c = go (pair ((as-near q).1 e) rounded-taken.one) (c.tie (rounded v n) (sym e)) (rounded-nearest.tie q e)
    where
      e : distance v n q ≡ distance v n (rounded v n)
      e = le_antisymm (c.nearest (rounded v n)) (as-near q).0

      go : Pair q (rounded v n) → (rounded v n ≡ q) ⊎ (even q ≡ true) → (q ≡ rounded v n) ⊎ (even (rounded v n) ≡ true) → q ≡ rounded v n
      go (same f) a b = f
      go (apart f h) (inl a) b = sym a
      go (apart f h) (inr a) (inl b) = b
      go (apart f h) (inr a) (inr b) = absurd (true≢false (sym a ∙ f ∙ ap not b))
