-- A part as it is cut out of the container. Assumes nothing.
use Prim.Native.Nat.{ℕ, ◌+◌, ◌-◌, ◌≤◌, min}
use mathlib.Core.Path.{◌≡◌, refl, sym, ◌∙◌}
use mathlib.Core.Bool.{Bool, true, false}
use mathlib.Core.List.{List}
use native.Mathlib.Nat.{min-eq_left, min-eq_right}
use native.Mathlib.Omega.{arith}
use lib.Dec.{leb}
use lib.ListN.{length, take, drop, drop_of_length-le, length-drop}
use lib.Seq.{take_all, take-length, take-nil, drop-length}
use borrow.Author.Tests.{leb-true, leb-false}
use Rattle.layout.specs.Layout.{pair_at, offset_of, length_of, part_of}

take_min : {A : Type 0} (n : ℕ) (l : List A) → take (min n (length l)) l ≡ take n l
take_min n l = go (leb n (length l)) refl
  where
    go : (t : Bool) → leb n (length l) ≡ t → take (min n (length l)) l ≡ take n l
    go true e = rw (min-eq_left (leb-true n (length l) e))
    go false e =
        let h : length l ≤ n = omega (arith, leb-false n (length l) e) in
        rw (min-eq_right h, take-length l, take_all n l h)

-- so many elements from a place on, with both cut to what there is
clipped : {A : Type 0} (l : List A) (a n : ℕ) → take (min n (length l - min a (length l))) (drop (min a (length l)) l) ≡ take n (drop a l)
clipped l a n = go (leb a (length l)) refl
  where
    go : (t : Bool) → leb a (length l) ≡ t → take (min n (length l - min a (length l))) (drop (min a (length l)) l) ≡ take n (drop a l)
    go true e = rw (min-eq_left (leb-true a (length l) e), ← length-drop a l) (take_min n (drop a l))
    go false e =
        let h : length l ≤ a = omega (arith, leb-false a (length l) e) in
        rw (min-eq_right h, drop_of_length-le l h, drop-length l) (take-nil (min n (length l - length l)) ∙ sym (take-nil n))

-- a part as its reader cuts it out: from `from` on, `n` bytes
pub cut_out : (bytes : List ℕ) (index from n : ℕ) → leb (pair_at index + 8) (length bytes) ≡ true → from ≡ min (offset_of bytes index) (length bytes)
    → n ≡ min (length_of bytes index) (length bytes - from) → take (from + n - from) (drop from bytes) ≡ part_of bytes index
unfolding part_of
cut_out bytes index from n t e f =
    let g : from + n - from ≡ n = omega arith in
    rw (g, f, e, t) (clipped bytes (offset_of bytes index) (length_of bytes index))

pub no_part : (bytes : List ℕ) (index n : ℕ) → leb (pair_at index + 8) (length bytes) ≡ false → take n (drop (length bytes) bytes) ≡ part_of bytes index
unfolding part_of
no_part bytes index n t = rw (t, drop-length bytes) (take-nil n)
