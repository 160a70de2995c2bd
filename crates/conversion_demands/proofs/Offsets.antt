-- Lists of offsets: which stand in them, that they rise, and the bytes that are raised at them. Assumes nothing.
use Prim.Native.Nat.{ℕ, zero, suc, ◌<◌}
use mathlib.Core.Path.{◌≡◌, refl, subst, ◌∙◌}
use mathlib.Core.List.{List, [], ◌∷◌, ◌++◌}
use mathlib.Core.Logic.{◌⊎◌, inl, inr}
use native.Mathlib.Decide.{ℕ_discrete}
use native.Mathlib.Nat.{eq-or-lt_of_le}
use native.Mathlib.Omega.{arith}
use lib.ListN.{length, set, length-set}
use lib.Seq.{get_or-set_same, get_or-set_other}
use Rattle.conversion.specs.Conversion.{raised_at}
use Rattle.little_endian.specs.Bytes.{byte_at}
use Rattle.plan.specs.Sense.Groups.{EachTwo}
use Rattle.plan.specs.Table.{Each}
use Rattle.plan.proofs.SenseEach.{each_append}
use Rattle.conversion_demands.specs.Converted.{Among}

-- ---- which stand in a list

module _ (offset : ℕ) where
  among-append : (xs ys : List ℕ) → Among offset (xs ++ ys) → Among offset xs ⊎ Among offset ys
  among-append [] ys a = inr a
  among-append (x ∷ xs) ys (inl e) = inl (inl e)
  among-append (x ∷ xs) ys (inr a) = elim (among-append xs ys a) [ inl b ↦ inl (inr b) | inr b ↦ inr b ]

  among-left : (xs ys : List ℕ) → Among offset xs → Among offset (xs ++ ys)
  among-left [] ys x' = elim x' [ ]
  among-left (x ∷ xs) ys (inl e) = inl e
  among-left (x ∷ xs) ys (inr a) = inr (among-left xs ys a)

  among-right : (xs ys : List ℕ) → Among offset ys → Among offset (xs ++ ys)
  among-right [] ys a = a
  among-right (x ∷ xs) ys a = inr (among-right xs ys a)

each-among : (P : ℕ → Type 0) (xs : List ℕ) → ((x : ℕ) → Among x xs → P x) → Each P xs
each-among P [] f = tt
each-among P (x ∷ xs) f = (f x (inl refl), each-among P xs (λ y a. f y (inr a)))

abbrev pub Rising : List ℕ → Type 0
Rising = EachTwo (λ one later. one < later)

rising-append : (xs ys : List ℕ) → Rising xs → Rising ys → ((x y : ℕ) → Among x xs → Among y ys → x < y) → Rising (xs ++ ys)
rising-append [] ys r s f = s
rising-append (x ∷ xs) ys r s f =
    (each_append (λ y. x < y) xs ys r.0 (each-among (λ y. x < y) ys (λ y a. f x y (inl refl) a)), rising-append xs ys r.1 s (λ y z a b. f y z (inr a) b))

-- the lists of a row of things, one after the other: `all n` has those of the first n
module _ (all one : ℕ → List ℕ) (start : all 0 ≡ []) (next : (n : ℕ) → all (suc n) ≡ all n ++ one n) where
  pub among-some : (offset n : ℕ) → Among offset (all n) → (k : ℕ) × (k < n) × Among offset (one k)
  among-some offset zero a = absurd (rw start at a)
  among-some offset (suc n) a =
      elim (among-append offset (all n) (one n) (rw (next n) at a)) [ inl b ↦ let s = among-some offset n b in (s.0, omega arith, s.2) | inr b ↦ (n, omega arith, b) ]

  pub among-all : (offset n k : ℕ) → k < n → Among offset (one k) → Among offset (all n)
  among-all offset zero k h a = absurd (omega arith)
  among-all offset (suc n) k h a =
      rw (next n)
      (elim (eq-or-lt_of_le h) [
        | inl e ↦ among-right offset (all n) (one n) (subst (λ (m : ℕ). Among offset (one m)) (omega arith) a)
        | inr i ↦ among-left offset (all n) (one n) (among-all offset n k (omega arith) a)
      ])

  pub all-rising : (n : ℕ) → ((k : ℕ) → k < n → Rising (one k)) → ((j k x y : ℕ) → j < k → k < n → Among x (one j) → Among y (one k) → x < y) → Rising (all n)
  all-rising zero r f = rw start tt
  all-rising (suc n) r f =
      rw (next n) (rising-append (all n) (one n) (all-rising n (λ k h. r k (omega arith)) (λ j k x y h i a b. f j k x y h (omega arith) a b)) (r n (omega arith))
      (λ x y a b. let s = among-some x n a in f s.0 n x y s.1 (omega arith) s.2 b))

-- ---- the bytes

pub byte-kept : (bytes ones : List ℕ) (place : ℕ) → ¬ Among place ones → byte_at (raised_at bytes ones) place ≡ byte_at bytes place
byte-kept bytes [] place n = refl
byte-kept bytes (one ∷ ones) place n = byte-kept (set bytes one 2) ones place (λ a. n (inr a)) ∙ get_or-set_other bytes one place 2 0 (λ e. n (inl e))

two-stays : (bytes ones : List ℕ) (place : ℕ) → place < length bytes → byte_at bytes place ≡ 2 → byte_at (raised_at bytes ones) place ≡ 2
two-stays bytes [] place h e = e
two-stays bytes (one ∷ ones) place h e = two-stays (set bytes one 2) ones place (rw (length-set bytes one 2) h) (go (ℕ_discrete place one))
  where
    go : Dec (place ≡ one) → byte_at (set bytes one 2) place ≡ 2
    go (yes f) = rw (← f) (get_or-set_same bytes place 2 0 h)
    go (no f) = get_or-set_other bytes one place 2 0 f ∙ e

pub byte-raised : (bytes ones : List ℕ) (place : ℕ) → place < length bytes → Among place ones → byte_at (raised_at bytes ones) place ≡ 2
byte-raised bytes [] place h x'' = elim x'' [ ]
byte-raised bytes (one ∷ ones) place h (inl e) =
    two-stays (set bytes one 2) ones place (rw (length-set bytes one 2) h) (rw (← e) (get_or-set_same bytes place 2 0 h))
byte-raised bytes (one ∷ ones) place h (inr a) = byte-raised (set bytes one 2) ones place (rw (length-set bytes one 2) h) a
