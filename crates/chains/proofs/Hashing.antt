-- Rows with the same keys have the same hash value. Assumes nothing.
use Prim.Native.Nat.{ℕ, zero, suc}
use mathlib.Core.Path.{◌≡◌, refl, ◌∙◌}
use mathlib.Core.Bool.{Bool, true, false, cond, not, ◌||◌, and-eq-true_iff}
use mathlib.Core.List.{List}
use lib.IntN.{ℤ, pos}
use lib.ListN.{length, get_or}
use Rattle.chains.specs.promises.Hash.{with_key, hash_upto, hash_of}
use Rattle.chains.specs.promises.Leads.{same_upto, same_values}
use Rattle.comparison.specs.Comparison.{same}
use Rattle.plan.specs.Masks.{in_mask}
use Rattle.comparison.proofs.Laws.{same-settled}

-- it depends on what a key settles to
with-same : (hash : ℕ) (a b : ℤ) → same a b ≡ true → with_key hash a ≡ with_key hash b
unfolding with_key
with-same hash a b e = rw (same-settled a b e)

module _ (keys : ℕ) (a b : List ℤ) where
  same-hash : (column : ℕ) → same_upto keys a b column ≡ true → hash_upto keys a column ≡ hash_upto keys b column
  same-hash zero e = refl
  same-hash (suc column) e = go (in_mask keys column) both.1 (same-hash column both.0)
    where
      both : (same_upto keys a b column ≡ true) × ((not (in_mask keys column) || same (get_or a column (pos 0)) (get_or b column (pos 0))) ≡ true)
      both = (and-eq-true_iff _ _).0 e

      go : (t : Bool) → (not t || same (get_or a column (pos 0)) (get_or b column (pos 0))) ≡ true → hash_upto keys a column ≡ hash_upto keys b column
          → cond t (with_key (hash_upto keys a column) (get_or a column (pos 0))) (hash_upto keys a column)
          ≡ cond t (with_key (hash_upto keys b column) (get_or b column (pos 0))) (hash_upto keys b column)
      go true s ih = rw ih (with-same _ _ _ s)
      go false s ih = ih

  -- rows with other hash values have other keys
  pub other-hash : length b ≡ length a → (hash_of keys a ≡ hash_of keys b → ⊥) → same_values keys a b ≡ false
  other-hash many n = go (same_values keys a b) refl
    where
      go : (t : Bool) → same_values keys a b ≡ t → t ≡ false
      go true e = absurd (n (same-hash (length a) e ∙ rw many refl))
      go false e = refl
