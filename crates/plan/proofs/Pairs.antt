-- Lists that are related in pairs. Assumes nothing.
use Prim.Native.Nat.{ℕ, zero, suc}
use mathlib.Core.Path.{◌≡◌, refl, ap, ap₂}
use mathlib.Core.Bool.{Bool, true, false, cond, true≢false, false≢true}
use mathlib.Core.List.{List, ◌∷◌, ◌++◌, map}
use lib.ListN.{length, get_or, take, drop}
use Rattle.plan.specs.Secrecy.{Pairwise, none, more}

module _ {A : Type 0} {R : A → A → Type 0} where
  pub same_length : {xs ys : List A} → Pairwise R xs ys → length xs ≡ length ys
  same_length none = refl
  same_length (more r p) = ap suc (same_length p)

  pub both-append : {xs ys us vs : List A} → Pairwise R xs ys → Pairwise R us vs → Pairwise R (xs ++ us) (ys ++ vs)
  both-append none q = q
  both-append (more r p) q = more r (both-append p q)

  pub both-take : (n : ℕ) {xs ys : List A} → Pairwise R xs ys → Pairwise R (take n xs) (take n ys)
  both-take zero p = none
  both-take (suc n) none = none
  both-take (suc n) (more r p) = more r (both-take n p)

  pub both-drop : (n : ℕ) {xs ys : List A} → Pairwise R xs ys → Pairwise R (drop n xs) (drop n ys)
  both-drop zero p = p
  both-drop (suc n) none = none
  both-drop (suc n) (more r p) = both-drop n p

  pub both-get : (n : ℕ) (d : A) → R d d → {xs ys : List A} → Pairwise R xs ys → R (get_or xs n d) (get_or ys n d)
  both-get n d r none = r
  both-get zero d r (more q p) = q
  both-get (suc n) d r (more q p) = both-get n d r p

  pub both_cond : (a b : Bool) → a ≡ b → {xs ys us vs : List A} → Pairwise R xs ys → Pairwise R us vs → Pairwise R (cond a xs us) (cond b ys vs)
  both_cond true true e p q = p
  both_cond true false e p q = absurd (true≢false e)
  both_cond false true e p q = absurd (false≢true e)
  both_cond false false e p q = q

  -- what the elements are mapped to is equal, if it is in each pair
  pub maps-same : {B : Type 0} (f : A → B) → ((x y : A) → R x y → f x ≡ f y) → {xs ys : List A} → Pairwise R xs ys → map f xs ≡ map f ys
  maps-same f h none = refl
  maps-same f h (more r p) = ap₂ ◌∷◌ (h _ _ r) (maps-same f h p)

module _ {A B : Type 0} {R : A → A → Type 0} {S : B → B → Type 0} where
  pub both-map : (f g : A → B) → ((x y : A) → R x y → S (f x) (g y)) → {xs ys : List A} → Pairwise R xs ys → Pairwise S (map f xs) (map g ys)
  both-map f g h none = none
  both-map f g h (more r p) = more (h _ _ r) (both-map f g h p)
