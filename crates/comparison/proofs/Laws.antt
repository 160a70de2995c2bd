-- The six comparisons: false with a number out of range, and the orders of whole numbers elsewhere. And the equality of group keys.
-- Assumes nothing.
use mathlib.Core.Path.{◌≡◌, refl, sym, ◌∙◌}
use mathlib.Core.Bool.{Bool, true, false, not, ◌&&◌, ◌||◌, false≢true, and-eq-true_iff}
use Prim.Native.Nat.{ℕ}
use native.Mathlib.Nat.{le_of_lt, le_of_eq}
use lib.Arith.{lt_of_le-ne}
use lib.Dec.{leb, ltb, eqb}
use lib.IntN.{ℤ, pos, negsuc}
use lib.Signed.{le_z, lt_z, ◌≤ℤ◌, ◌<ℤ◌}
use borrow.Author.Tests.{ltb-true, ltb-false, eqb-true, le-leb, lt-leb, eq-eqb}
use Rattle.value.specs.Range.{in_range, both_in_range, settled}
use Rattle.value.specs.Equality.{eq_z}
use Rattle.comparison.specs.Comparison.{equal, unequal, less, at_most, greater, at_least, same}
use Rattle.value.proofs.Integers.{so, le_z_not_lt_z}
use Rattle.value.proofs.Laws.Equality.{eq_z-refl, eq_z-eq}
use Rattle.value.proofs.Laws.Range.{Result, in_both, both-in, both-comm, settled-in, settled-out, result-settled}

-- ---- out of range

module _ (a b : ℤ) (e : both_in_range a b ≡ false) where
  pub equal-out : equal a b ≡ false
  unfolding equal
  equal-out = rw e

  pub unequal-out : unequal a b ≡ false
  unfolding unequal
  unequal-out = rw e

  pub less-out : less a b ≡ false
  unfolding less
  less-out = rw e

  pub at-most-out : at_most a b ≡ false
  unfolding at_most
  at-most-out = rw e

  pub greater-out : greater a b ≡ false
  unfolding greater less
  greater-out = rw (both-comm b a, e)

  pub at-least-out : at_least a b ≡ false
  unfolding at_least at_most
  at-least-out = rw (both-comm b a, e)

-- ---- in range

module _ (a b : ℤ) (e : both_in_range a b ≡ true) where
  pub unequal-not : unequal a b ≡ not (equal a b)
  unfolding unequal equal
  unequal-not = rw e

  pub at-most-not : at_most a b ≡ not (greater a b)
  unfolding at_most greater less
  at-most-not = rw (both-comm b a, e) (le_z_not_lt_z a b)

  pub at-least-not : at_least a b ≡ not (less a b)
  unfolding at_least at_most less
  at-least-not = rw (both-comm b a, e) (le_z_not_lt_z b a)

  pub equal-same : equal a b ≡ same a b
  unfolding equal same
  equal-same = rw (e, settled-in a (in_both a b e).0, settled-in b (in_both a b e).1)

le-or : (m n : ℕ) (t : Bool) → (t ≡ true → m ≡ n) → (m ≡ n → t ≡ true) → leb m n ≡ (ltb m n || t)
le-or m n t f g = go (ltb m n) refl t f g
  where
    go : (s : Bool) → ltb m n ≡ s → (t : Bool) → (t ≡ true → m ≡ n) → (m ≡ n → t ≡ true) → leb m n ≡ (s || t)
    go true e t f g = le-leb m n (le_of_lt (ltb-true m n e))
    go false e true f g = le-leb m n (le_of_eq (f refl))
    go false e false f g = lt-leb m n (lt_of_le-ne (ltb-false m n e) (λ h. false≢true (g (sym h))))

le_z-or : (a b : ℤ) → le_z a b ≡ (lt_z a b || eq_z a b)
unfolding eq_z
le_z-or (pos m) (pos n) = le-or m n (eqb m n) (eqb-true m n) (eq-eqb m n)
le_z-or (pos m) (negsuc n) = refl
le_z-or (negsuc m) (pos n) = refl
le_z-or (negsuc m) (negsuc n) = le-or n m (eqb m n) (λ e. sym (eqb-true m n e)) (λ h. eq-eqb m n (sym h))

pub at-most-or : (a b : ℤ) → at_most a b ≡ (less a b || equal a b)
unfolding at_most less equal
at-most-or a b = go (both_in_range a b)
  where
    go : (t : Bool) → (t && le_z a b) ≡ ((t && lt_z a b) || (t && eq_z a b))
    go true = le_z-or a b
    go false = refl

pub greater-less : (a b : ℤ) → greater a b ≡ less b a
unfolding greater
greater-less a b = refl

pub at-least-at-most : (a b : ℤ) → at_least a b ≡ at_most b a
unfolding at_least
at-least-at-most a b = refl

-- ---- what a comparison that holds says

pub equal-eq : (a b : ℤ) → equal a b ≡ true → a ≡ b
unfolding equal
equal-eq a b e = eq_z-eq a b ((and-eq-true_iff (both_in_range a b) (eq_z a b)).0 e).1

pub equal-refl : (a : ℤ) → in_range a ≡ true → equal a a ≡ true
unfolding equal
equal-refl a e = rw (both-in a a e e) (eq_z-refl a)

pub less-lt : (a b : ℤ) → less a b ≡ true → a <ℤ b
unfolding less
less-lt a b e = record { lt = so ((and-eq-true_iff (both_in_range a b) (lt_z a b)).0 e).1 }

pub at-most-le : (a b : ℤ) → at_most a b ≡ true → a ≤ℤ b
unfolding at_most
at-most-le a b e = record { le = so ((and-eq-true_iff (both_in_range a b) (le_z a b)).0 e).1 }

-- ---- group keys

pub same-settled : (a b : ℤ) → same a b ≡ true → settled a ≡ settled b
unfolding same
same-settled a b e = eq_z-eq (settled a) (settled b) e

pub settled_same : (a b : ℤ) → settled a ≡ settled b → same a b ≡ true
unfolding same
settled_same a b e = rw e (eq_z-refl (settled b))

pub same_refl : (a : ℤ) → same a a ≡ true
same_refl a = settled_same a a refl

pub same-sym : (a b : ℤ) → same a b ≡ true → same b a ≡ true
same-sym a b e = settled_same b a (sym (same-settled a b e))

pub same-trans : (a b c : ℤ) → same a b ≡ true → same b c ≡ true → same a c ≡ true
same-trans a b c e h = settled_same a c (same-settled a b e ∙ same-settled b c h)

-- "OVER group keys are equal"
pub same_out : (a b : ℤ) → in_range a ≡ false → in_range b ≡ false → same a b ≡ true
same_out a b e h = settled_same a b (settled-out a e ∙ sym (settled-out b h))

-- two results that are the same key are one number
pub same-eq : (a b : ℤ) → Result a → Result b → same a b ≡ true → a ≡ b
same-eq a b r s e = sym (result-settled a r) ∙ same-settled a b e ∙ result-settled b s
