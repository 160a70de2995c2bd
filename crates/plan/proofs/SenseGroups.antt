-- Having the same keys is an equivalence. Assumes nothing.
use Prim.Native.Nat.{ℕ, zero, suc, ◌<◌}
use mathlib.Core.Path.{◌≡◌, refl}
use mathlib.Core.Bool.{Bool, true, false, not, ◌||◌, false≢true}
use native.Mathlib.Omega.{arith}
use lib.Dec.{ltb}
use borrow.Author.Tests.{ltb-true, ltb-false}
use Rattle.plan.specs.Masks.{in_mask}
use Rattle.plan.specs.Group.{same_keys}
use Rattle.plan.specs.Sense.Groups.{SameKeysMeans}
use Rattle.plan.specs.Table.{Row, cell_at}
use Rattle.plan.proofs.Bools.{and-true}
use Rattle.comparison.specs.Comparison.{same}
use Rattle.comparison.proofs.Laws.{same_refl, same-sym, same-trans}

-- a key column matters only if it is in the mask
masked : (bit p : Bool) → (bit ≡ true → p ≡ true) → (not bit || p) ≡ true
masked true p f = f refl
masked false p f = refl

unmasked : (bit p : Bool) → (not bit || p) ≡ true → bit ≡ true → p ≡ true
unmasked true p e t = e
unmasked false p e t = absurd (false≢true t)

abbrev Agree : ℕ → Row → Row → ℕ → Type 0
Agree keys a b column = in_mask keys column ≡ true → same (cell_at column a).value (cell_at column b).value ≡ true

module _ (keys : ℕ) (a b : Row) where
  agree : (columns : ℕ) → same_keys keys columns a b ≡ true → (column : ℕ) → column < columns → Agree keys a b column
  agree zero e column h = absurd (omega arith)
  agree (suc n) e column h =
      let s = and-true (same_keys keys n a b) _ e in
      earlier-or-last (ltb column n) refl (agree n s.0 column) (unmasked (in_mask keys n) _ s.1)
    where
      earlier-or-last : (t : Bool) → ltb column n ≡ t → (column < n → Agree keys a b column) → Agree keys a b n → Agree keys a b column
      earlier-or-last true l f g = f (ltb-true column n l)
      earlier-or-last false l f g = let q : column ≡ n = omega (arith, ltb-false column n l) in rw q g

  agreed : (columns : ℕ) → ((column : ℕ) → column < columns → Agree keys a b column) → same_keys keys columns a b ≡ true
  agreed zero f = refl
  agreed (suc n) f =
      rw (agreed n (λ column h. f column (omega arith))) (masked (in_mask keys n) _ (f n (omega arith)))

pub same-keys-means : SameKeysMeans
same-keys-means keys columns a b = (agree keys a b columns, agreed keys a b columns)

pub same-keys-refl : (keys columns : ℕ) (a : Row) → same_keys keys columns a a ≡ true
same-keys-refl keys columns a = agreed keys a a columns (λ column h t. same_refl (cell_at column a).value)

pub same-keys-sym : (keys columns : ℕ) (a b : Row) → same_keys keys columns a b ≡ true → same_keys keys columns b a ≡ true
same-keys-sym keys columns a b e =
    agreed keys b a columns (λ column h t. same-sym (cell_at column a).value (cell_at column b).value (agree keys a b columns e column h t))

pub same-keys-trans : (keys columns : ℕ) (a b c : Row) → same_keys keys columns a b ≡ true → same_keys keys columns b c ≡ true → same_keys keys columns a c ≡ true
same-keys-trans keys columns a b c e f =
    agreed keys a c columns (λ column h t.
    same-trans (cell_at column a).value (cell_at column b).value (cell_at column c).value (agree keys a b columns e column h t) (agree keys b c columns f column h t))
