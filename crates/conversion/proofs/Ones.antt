-- The offsets of the labels to be raised, and what raising them does. Assumes nothing.
use Prim.Native.Nat.{ℕ, zero, suc, ◌+◌, ◌*◌, ◌≤◌, ◌<◌}
use mathlib.Core.Path.{◌≡◌, refl, sym, ap, ◌∙◌}
use mathlib.Core.Bool.{Bool, true, false, cond}
use mathlib.Core.List.{List, [], ◌∷◌, ◌++◌, append-nil, append_assoc}
use native.Mathlib.Nat.{add-zero, add-suc, suc-add}
use native.Mathlib.Numerals.{add-one}
use native.Mathlib.Omega.{arith}
use lib.ListN.{length, get_or, set, take, drop, length-append, length-set}
use lib.Seq.{sets, length-sets, set-append_left, drop-cons, set_at, take-suc, append_snoc, length-take-le}
use Rattle.conversion.specs.Conversion.{has_one, one_at, ones_among, ones_from, raised_at}
use Rattle.conversion.specs.promises.Raising.{Raised}
use Rattle.layout.specs.Layout.{offset_of, part_of}
use Rattle.plan.specs.Table.{Each}
use Rattle.plan.proofs.SenseEach.{each_append}
use Rattle.table_part.specs.TablePart.{cell_count, label_place, label_of}

-- ---- one more of each

pub ones-more : (part : List ℕ) (at cell n : ℕ) → ones_among part at cell (suc n) ≡ ones_among part at cell n ++ one_at part at (cell + n)
ones-more part at cell zero = rw (add-zero cell) (append-nil (one_at part at cell))
ones-more part at cell (suc n) =
    rw (add-suc cell n ∙ sym (suc-add cell n))
    (ap (λ (l : List ℕ). one_at part at cell ++ l) (ones-more part at (suc cell) n) ∙ sym (append_assoc (one_at part at cell) _ _))

-- the offsets of one part
abbrev pub ones_of : List ℕ → ℕ → List ℕ
ones_of bytes part = ones_among (part_of bytes part) (offset_of bytes part) 0 (cell_count (part_of bytes part))

pub from_more : (bytes : List ℕ) (part n : ℕ) → ones_from bytes part (suc n) ≡ ones_from bytes part n ++ ones_of bytes (part + n)
from_more bytes part zero = rw (add-zero part) (append-nil (ones_of bytes part))
from_more bytes part (suc n) =
    rw (add-suc part n ∙ sym (suc-add part n))
    (ap (λ (l : List ℕ). ones_of bytes part ++ l) (from_more bytes (suc part) n) ∙ sym (append_assoc (ones_of bytes part) _ _))

-- ---- how many, and where

cond-few : (b : Bool) (x : ℕ) → length (cond b (x ∷ []) []) ≤ 1
cond-few true x = omega arith
cond-few false x = omega arith

pub ones-few : (part : List ℕ) (at cell n : ℕ) → length (ones_among part at cell n) ≤ n
ones-few part at cell zero = omega arith
ones-few part at cell (suc n) =
    omega (arith, length-append (one_at part at cell) (ones_among part at (suc cell) n), cond-few (has_one (label_of part cell)) (at + label_place cell), ones-few part at (suc cell) n)

cond-each : (P : ℕ → Type 0) (b : Bool) (x : ℕ) → P x → Each P (cond b (x ∷ []) [])
cond-each P true x h = (h, tt)
cond-each P false x h = tt

-- each stands before the end of the last cell
pub ones_below : (part : List ℕ) (at cell n end : ℕ) → at + 4 + 12 * (cell + n) ≤ end → Each (λ one. one < end) (ones_among part at cell n)
ones_below part at cell zero end h = tt
ones_below part at cell (suc n) end h =
    each_append (λ one. one < end) (one_at part at cell) (ones_among part at (suc cell) n)
    (cond-each (λ one. one < end) (has_one (label_of part cell)) (at + label_place cell) (omega arith)) (ones_below part at (suc cell) n end (omega arith))

-- ---- raising

pub raised-length : (bytes ones : List ℕ) → length (raised_at bytes ones) ≡ length bytes
raised-length bytes [] = refl
raised-length bytes (one ∷ ones) = raised-length (set bytes one 2) ones ∙ length-set bytes one 2

pub raised-append : (bytes xs ys : List ℕ) → raised_at bytes (xs ++ ys) ≡ raised_at (raised_at bytes xs) ys
raised-append bytes [] ys = refl
raised-append bytes (x ∷ xs) ys = raised-append (set bytes x 2) xs ys

sets-append : (l : List ℕ) (i : ℕ) (xs ys : List ℕ) → sets l i (xs ++ ys) ≡ sets (sets l i xs) (i + length xs) ys
sets-append l i [] ys = rw (add-zero i)
sets-append l i (x ∷ xs) ys = rw (add-suc i (length xs) ∙ sym (suc-add i (length xs))) (sets-append (set l i x) (suc i) xs ys)

-- what stands after the container stays as it is
pub raised-front : (bytes after ones : List ℕ) → Each (λ one. one < length bytes) ones → raised_at (bytes ++ after) ones ≡ raised_at bytes ones ++ after
raised-front bytes after [] e = refl
raised-front bytes after (one ∷ ones) e =
    rw (set-append_left bytes after one 2 e.0) (raised-front (set bytes one 2) after ones (rw (length-set bytes one 2) e.1))

module _ {count : ℕ} {new offsets : List ℕ} where
  pub none-raised : Raised [] count new offsets count new offsets
  none-raised = record { counted = sym (add-zero count); in-new = refl; in-offsets = refl }

  pub both-raised : {xs ys : List ℕ} {found : ℕ} {raised told : List ℕ} {more : ℕ} {raised' told' : List ℕ}
      → Raised xs count new offsets found raised told → Raised ys found raised told more raised' told'
      → Raised (xs ++ ys) count new offsets more raised' told'
  both-raised {xs} {ys} a b = record {
    counted = omega (arith, a.counted, b.counted, length-append xs ys);
    in-new = b.in-new ∙ ap (λ (l : List ℕ). raised_at l ys) a.in-new ∙ sym (raised-append new xs ys);
    in-offsets = b.in-offsets ∙ rw (a.in-offsets, a.counted) (sym (sets-append offsets count xs ys));
  }

module _ {ones : List ℕ} {count found : ℕ} {new offsets raised told : List ℕ} (r : Raised ones count new offsets found raised told) where
  pub new-length : length raised ≡ length new
  new-length = ap length r.in-new ∙ raised-length new ones

  pub offsets-length : length told ≡ length offsets
  offsets-length = ap length r.in-offsets ∙ length-sets offsets count ones

-- ---- one label

module _ (part : List ℕ) (at cell : ℕ) {count : ℕ} {new offsets : List ℕ} where
  pub not-one : has_one (label_of part cell) ≡ false → Raised (one_at part at cell) count new offsets count new offsets
  not-one e = rw e none-raised

  pub is_one : has_one (label_of part cell) ≡ true
      → Raised (one_at part at cell) count new offsets (count + 1) (set new (at + label_place cell) 2) (set offsets count (at + label_place cell))
  is_one e = rw e record { counted = refl; in-new = refl; in-offsets = refl }

-- ---- the copy

pub one-copied : (bytes old : List ℕ) (i : ℕ) → i < length bytes → i < length old → set (take i bytes ++ drop i old) i (get_or bytes i 0) ≡ take (i + 1) bytes ++ drop (i + 1) old
one-copied bytes old i h k =
    rw (drop-cons old i 0 k, set_at (take i bytes) (get_or old i 0) (drop (suc i) old) (get_or bytes i 0) i (length-take-le i bytes (omega arith)), add-one i, take-suc bytes i 0 h)
    (sym (append_snoc (take i bytes) (get_or bytes i 0) (drop (suc i) old)))
