-- The smaller and the larger of two values, exact sums, and the average.
-- Assumes nothing.
use mathlib.Core.Path.{◌≡◌, refl, sym, ap, ◌∙◌}
use mathlib.Core.Logic.{◌⊎◌, inl, inr}
use mathlib.Core.Bool.{Bool, true, false, cond, ◌&&◌, and-eq-true_iff}
use mathlib.Core.List.{List, [], ◌∷◌, ◌++◌, append_assoc, append-nil, foldl}
use Prim.Native.Nat.{ℕ, suc, ◌+◌, ◌-◌, ◌*◌, ◌^◌, ◌≤◌, ◌<◌}
use native.Mathlib.Omega.{arith}
use lib.Dec.{ltb, leb→le, le→leb, lit≤}
use lib.IntN.{ℤ, pos, negsuc, nat_abs, ◌+ℤ◌, +ℤ_idr, +ℤ_idl, +ℤ_assoc}
use lib.ListN.{length, length-append}
use lib.Signed.{mag, le_z, ◌≤ℤ◌, nat_abs-le, ≤ℤ_refl, le_z_yes}
use Rattle.value.specs.Range.{in_range, both_in_range, OVER}
use Rattle.aggregate.specs.Aggregate.{smaller, larger, exact_sum, all_in_range, has_room, accumulated}
use Rattle.rounding.specs.Rounding.{rounded, average}
use Rattle.rounding.specs.Sentences.{Nearest}
use Rattle.rounding.proofs.Distances.{size_below, rounded-size}
use Rattle.rounding.proofs.Laws.{average-exact}
use Rattle.rounding.proofs.SentencesProof.{rounded-is-nearest}
use Rattle.value.proofs.Integers.{so, le_z-other, mag-plus, mag-nat_abs}
use Rattle.value.proofs.Sizes.{in_size, size_in}
use Rattle.aggregate.proofs.Room.{size_room}
use Rattle.value.proofs.Laws.Range.{Result, in_both, of-both-in, of-both-out, of-both-result}

-- ---- the smaller and the larger

pub smaller-out : (a b : ℤ) → both_in_range a b ≡ false → smaller a b ≡ OVER
unfolding smaller
smaller-out a b e = of-both-out a b (cond (le_z a b) a b) e

pub larger-out : (a b : ℤ) → both_in_range a b ≡ false → larger a b ≡ OVER
unfolding larger
larger-out a b e = of-both-out a b (cond (le_z b a) a b) e

either : (t : Bool) (x y : ℤ) → in_range x ≡ true → in_range y ≡ true → in_range (cond t x y) ≡ true
either true x y e h = e
either false x y e h = h

chosen : (t : Bool) (x y : ℤ) → (cond t x y ≡ x) ⊎ (cond t x y ≡ y)
chosen true x y = inl refl
chosen false x y = inr refl

pub smaller-result : (a b : ℤ) → Result (smaller a b)
unfolding smaller
smaller-result a b =
    of-both-result a b (cond (le_z a b) a b) (λ e. inl (either (le_z a b) a b (in_both a b e).0 (in_both a b e).1))

pub larger-result : (a b : ℤ) → Result (larger a b)
unfolding larger
larger-result a b =
    of-both-result a b (cond (le_z b a) a b) (λ e. inl (either (le_z b a) a b (in_both a b e).0 (in_both a b e).1))

module _ (a b : ℤ) (e : both_in_range a b ≡ true) where
  pub smaller-below : (smaller a b ≤ℤ a) × (smaller a b ≤ℤ b)
  unfolding smaller
  smaller-below = rw (of-both-in a b (cond (le_z a b) a b) e) (go (le_z a b) refl)
    where
      go : (t : Bool) → le_z a b ≡ t → (cond t a b ≤ℤ a) × (cond t a b ≤ℤ b)
      go true h = (≤ℤ_refl a, le_z_yes (so h))
      go false h = (le_z_yes (so (le_z-other a b h)), ≤ℤ_refl b)

  pub larger-above : (a ≤ℤ larger a b) × (b ≤ℤ larger a b)
  unfolding larger
  larger-above = rw (of-both-in a b (cond (le_z b a) a b) e) (go (le_z b a) refl)
    where
      go : (t : Bool) → le_z b a ≡ t → (a ≤ℤ cond t a b) × (b ≤ℤ cond t a b)
      go true h = (≤ℤ_refl a, le_z_yes (so h))
      go false h = (le_z_yes (so (le_z-other b a h)), ≤ℤ_refl b)

  pub smaller-one : (smaller a b ≡ a) ⊎ (smaller a b ≡ b)
  unfolding smaller
  smaller-one = rw (of-both-in a b (cond (le_z a b) a b) e) (chosen (le_z a b) a b)

  pub larger-one : (larger a b ≡ a) ⊎ (larger a b ≡ b)
  unfolding larger
  larger-one = rw (of-both-in a b (cond (le_z b a) a b) e) (chosen (le_z b a) a b)

-- ---- sums

pub all_append : (us vs : List ℤ) → all_in_range (us ++ vs) ≡ (all_in_range us && all_in_range vs)
unfolding all_in_range
all_append [] vs = refl
all_append (u ∷ us) vs = rw (all_append us vs) (sym (and_assoc (in_range u) (all_in_range us) (all_in_range vs)))
  where
    and_assoc : (a b c : Bool) → ((a && b) && c) ≡ (a && (b && c))
    and_assoc true b c = refl
    and_assoc false b c = refl

pub all_more : (vs : List ℤ) (v : ℤ) → all_in_range vs ≡ true → in_range v ≡ true → all_in_range (vs ++ (v ∷ [])) ≡ true
unfolding all_in_range
all_more vs v e h = rw (all_append vs (v ∷ []), e, h)

pub sum-none : exact_sum [] ≡ pos 0
unfolding exact_sum
sum-none = refl

pub sum-append : (us vs : List ℤ) → exact_sum (us ++ vs) ≡ exact_sum us +ℤ exact_sum vs
unfolding exact_sum
sum-append [] vs = sym (+ℤ_idl (exact_sum vs))
sum-append (u ∷ us) vs = rw (sum-append us vs) (sym (+ℤ_assoc u (exact_sum us) (exact_sum vs)))

either-most : (t : Bool) (x y : ℕ) {m : ℕ} → y ≤ m → cond t (negsuc x) (pos y) ≤ℤ pos m
either-most true x y h = record { le = tt }
either-most false x y {m} h = record { le = le→leb y m h }

-- the sum of n values lies in n times the range
sum-size : (vs : List ℤ) → all_in_range vs ≡ true → 0 < length vs → mag (exact_sum vs) < length vs * 2 ^ 47
unfolding exact_sum all_in_range
sum-size [] e p = absurd (omega arith)
sum-size (v ∷ []) e p = rw (+ℤ_idr v) (omega (arith, in_size v ((and-eq-true_iff (in_range v) true).0 e).0))
sum-size (v ∷ (w ∷ ws)) e p =
    let h = (and-eq-true_iff (in_range v) (all_in_range (w ∷ ws))).0 e in
    omega (arith, mag-plus v (exact_sum (w ∷ ws)) (in_size v h.0) (sum-size (w ∷ ws) h.1 (omega arith)))

plus-most : (a b : ℤ) {p q m : ℕ} → a ≤ℤ pos p → b ≤ℤ pos q → p + q ≤ m → (a +ℤ b) ≤ℤ pos m
plus-most (pos a) (pos b) {p} {q} {m} h k l = record { le = le→leb (a + b) m (omega (arith, leb→le a p h.le, leb→le b q k.le)) }
plus-most (pos a) (negsuc b) {p} h k l = either-most (ltb a (suc b)) (suc b - suc a) (a - suc b) (omega (arith, leb→le a p h.le))
plus-most (negsuc a) (pos b) {p} {q} h k l = either-most (ltb b (suc a)) (suc a - suc b) (b - suc a) (omega (arith, leb→le b q k.le))
plus-most (negsuc a) (negsuc b) h k l = record { le = tt }

-- and is at most n times the most
sum-most : (vs : List ℤ) → all_in_range vs ≡ true → exact_sum vs ≤ℤ pos (length vs * (2 ^ 47 - 1))
unfolding exact_sum all_in_range
sum-most [] e = record { le = tt }
sum-most (v ∷ vs) e =
    let h = (and-eq-true_iff (in_range v) (all_in_range vs)).0 e in
    plus-most v (exact_sum vs) (size_below v (2 ^ 47 - 1) (omega (arith, in_size v h.0))) (sum-most vs h.1) (omega arith)

pub sum-magnitude : (vs : List ℤ) → all_in_range vs ≡ true → length vs ≤ 256 → nat_abs (exact_sum vs) ≤ 2 ^ 55
unfolding exact_sum
sum-magnitude [] e l = lit≤ tt
sum-magnitude (v ∷ vs) e l = nat_abs-le (v +ℤ exact_sum vs) (omega (arith, sum-size (v ∷ vs) e (omega arith)))

pub sum_room : (vs : List ℤ) → all_in_range vs ≡ true → length vs ≤ 256 → has_room (exact_sum vs) ≡ true
sum_room vs e l = size_room (exact_sum vs) (omega (arith, mag-nat_abs (exact_sum vs), sum-magnitude vs e l))

pub accumulated-out : (total v : ℤ) → in_range v ≡ false → accumulated total v ≡ total
unfolding accumulated
accumulated-out total v e = rw e

-- a running sum is exact: with one value more, and over a whole list
pub accumulated-more : (vs : List ℤ) (v : ℤ) → all_in_range vs ≡ true → in_range v ≡ true → length vs ≤ 256
    → accumulated (exact_sum vs) v ≡ exact_sum (vs ++ (v ∷ []))
unfolding accumulated exact_sum
accumulated-more vs v e h l = rw (h, sum_room vs e l, sum-append vs (v ∷ []), +ℤ_idr v)

accumulated-from : (us vs : List ℤ) → all_in_range (us ++ vs) ≡ true → length (us ++ vs) ≤ 256
    → foldl accumulated (exact_sum us) vs ≡ exact_sum (us ++ vs)
unfolding all_in_range
accumulated-from us [] e l = ap exact_sum (sym (append-nil us))
accumulated-from us (v ∷ vs) e l =
    let h = (and-eq-true_iff (all_in_range us) (in_range v && all_in_range vs)).0 (sym (all_append us (v ∷ vs)) ∙ e) in
    let i = ((and-eq-true_iff (in_range v) (all_in_range vs)).0 h.1).0 in
    let g = append_assoc us (v ∷ []) vs in
    rw (accumulated-more us v h.0 i (omega (arith, length-append us (v ∷ vs))), ← g)
    (accumulated-from (us ++ (v ∷ [])) vs (rw g e) (rw g l))

pub accumulated-all : (vs : List ℤ) → all_in_range vs ≡ true → length vs ≤ 256 → foldl accumulated (pos 0) vs ≡ exact_sum vs
unfolding exact_sum
accumulated-all vs e l = accumulated-from [] vs e l

-- ---- the average

-- the average of values is never out of range by itself
rounded-in : (vs : List ℤ) → all_in_range vs ≡ true → 0 < length vs → in_range (rounded (exact_sum vs) (length vs)) ≡ true
rounded-in vs e p =
    size_in (rounded (exact_sum vs) (length vs))
    (rounded-size (exact_sum vs) p (2 ^ 47 - 1) (sum-most vs e) (omega (arith, sum-size vs e p)))

pub average-nearest : (vs : List ℤ) → all_in_range vs ≡ true → 0 < length vs
    → Nearest (length vs) (exact_sum vs) (average (exact_sum vs) (length vs))
average-nearest vs e p = rw (average-exact (exact_sum vs) p (rounded-in vs e p)) (rounded-is-nearest (exact_sum vs) (length vs) p)
