-- Facts of each element of a list. Assumes nothing.
use Prim.Native.Nat.{ℕ, zero, suc, ◌<◌}
use mathlib.Core.Path.{◌≡◌, refl}
use mathlib.Core.Bool.{Bool, true, false, cond}
use mathlib.Core.List.{List, [], ◌∷◌, ◌++◌, map}
use native.Mathlib.Omega.{arith}
use lib.ListN.{length, get_or, take, drop}
use Rattle.plan.specs.Table.{Each}

module _ {A : Type 0} where
  pub each_append : (P : A → Type 0) (xs ys : List A) → Each P xs → Each P ys → Each P (xs ++ ys)
  each_append P [] ys p q = q
  each_append P (x ∷ xs) ys p q = (p.0, each_append P xs ys p.1 q)

  pub each-get : (P : A → Type 0) (xs : List A) (n : ℕ) (d : A) → P d → Each P xs → P (get_or xs n d)
  each-get P [] n d h p = h
  each-get P (x ∷ xs) zero d h p = p.0
  each-get P (x ∷ xs) (suc n) d h p = each-get P xs n d h p.1

  -- what holds at each place holds of each element
  pub each_at : (P : A → Type 0) (xs : List A) (d : A) → ((n : ℕ) → n < length xs → P (get_or xs n d)) → Each P xs
  each_at P [] d f = tt
  each_at P (x ∷ xs) d f = (f 0 (omega arith), each_at P xs d (λ n h. f (suc n) (omega arith)))

  pub each-cond : (P : A → Type 0) (b : Bool) (xs ys : List A) → Each P xs → Each P ys → Each P (cond b xs ys)
  each-cond P true xs ys p q = p
  each-cond P false xs ys p q = q

  -- a list of one element, or of none where a test holds
  pub each-if : (P : A → Type 0) (b : Bool) (x : A) → (b ≡ false → P x) → Each P (cond b [] (x ∷ []))
  each-if P true x f = tt
  each-if P false x f = (f refl, tt)

  pub each_left : (P : A → Type 0) (xs ys : List A) → Each P (xs ++ ys) → Each P xs
  each_left P [] ys p = tt
  each_left P (x ∷ xs) ys p = (p.0, each_left P xs ys p.1)

  pub each_last : (P : A → Type 0) (xs : List A) (y : A) → Each P (xs ++ (y ∷ [])) → P y
  each_last P [] y p = p.0
  each_last P (x ∷ xs) y p = each_last P xs y p.1

  pub each_weaken : (P Q : A → Type 0) → ((x : A) → P x → Q x) → (xs : List A) → Each P xs → Each Q xs
  each_weaken P Q h [] p = tt
  each_weaken P Q h (x ∷ xs) p = (h x p.0, each_weaken P Q h xs p.1)

  pub each_take : (P : A → Type 0) (n : ℕ) (xs : List A) → Each P xs → Each P (take n xs)
  each_take P zero xs p = tt
  each_take P (suc n) [] p = tt
  each_take P (suc n) (x ∷ xs) p = (p.0, each_take P n xs p.1)

  pub each-drop : (P : A → Type 0) (n : ℕ) (xs : List A) → Each P xs → Each P (drop n xs)
  each-drop P zero xs p = p
  each-drop P (suc n) [] p = tt
  each-drop P (suc n) (x ∷ xs) p = each-drop P n xs p.1

pub each_map : {A B : Type 0} (P : A → Type 0) (Q : B → Type 0) (f : A → B) → ((x : A) → P x → Q (f x)) → (xs : List A) → Each P xs → Each Q (map f xs)
each_map P Q f h [] p = tt
each_map P Q f h (x ∷ xs) p = (h x p.0, each_map P Q f h xs p.1)
