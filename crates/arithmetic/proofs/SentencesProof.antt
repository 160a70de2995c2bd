-- Document 01's sentences on the operations. Assumes nothing.
use mathlib.Core.Path.{◌≡◌, refl}
use mathlib.Core.Bool.{Bool, true, false, true≢false}
use Prim.Native.Nat.{ℕ, zero, suc, ◌*◌, ◌≤◌, zero-le}
use native.Mathlib.Nat.{mul-le-mul_left}
use native.Mathlib.Omega.{arith}
use lib.Dec.{leb→le, le→leb}
use lib.IntN.{ℤ, pos, negsuc, neg_ℤ, suc_ℤ, ◌+ℤ◌, ◌-ℤ◌, ◌*ℤ◌, +ℤ_one}
use lib.Signed.{le_z, ◌≤ℤ◌, ◌<ℤ◌, <ℤ-≤ℤ_trans, clash_ℤ}
use borrow.Author.Tests.{leb-false}
use Rattle.arithmetic.specs.Sentences.{PlusIsSum, MinusIsDifference, CutIsQuotient, BandIsMultiple, CutAndBandOfOver}
use Rattle.value.proofs.Integers.{so}
use Rattle.arithmetic.proofs.Laws.{plus-in, plus-out, minus-in, minus-out, cut_out, cut-quotient, band-out, band-multiple}
use Rattle.value.proofs.Laws.Range.{both-in, left_out, right-out}
use Rattle.value.proofs.SentencesProof.{settles}

pub plus-is-sum : PlusIsSum
plus-is-sum = record {
  values = λ a b e f. rw (plus-in a b (both-in a b e f)) (settles (a +ℤ b));
  over-left = λ a b e. plus-out a b (left_out a b e);
  over-right = λ a b e. plus-out a b (right-out a b e);
}

pub minus-is-difference : MinusIsDifference
minus-is-difference = record {
  values = λ a b e f. rw (minus-in a b (both-in a b e f)) (settles (a -ℤ b));
  over-left = λ a b e. minus-out a b (left_out a b e);
  over-right = λ a b e. minus-out a b (right-out a b e);
}

pub cut-is-quotient : CutIsQuotient
cut-is-quotient = cut-quotient

-- ---- band

neg-below : (x y : ℕ) → neg_ℤ (pos x) ≤ℤ pos y
neg-below zero y = record { le = le→leb 0 y zero-le }
neg-below (suc x) y = record { le = tt }

neg-order : (x y : ℕ) → y ≤ x → neg_ℤ (pos x) ≤ℤ neg_ℤ (pos y)
neg-order x zero h = neg-below x 0
neg-order zero (suc y) h = absurd (omega arith)
neg-order (suc x) (suc y) h = record { le = le→leb y x (omega arith) }

-- multiples of a number that is not negative are in order
times-order : (n : ℕ) (a b : ℤ) → a ≤ℤ b → (pos n *ℤ a) ≤ℤ (pos n *ℤ b)
times-order n (pos a) (pos b) h = record { le = le→leb (n * a) (n * b) (mul-le-mul_left n (leb→le a b h.le)) }
times-order n (pos a) (negsuc b) h = absurd h.le
times-order n (negsuc a) (pos b) h = neg-below (n * suc a) (n * b)
times-order n (negsuc a) (negsuc b) h = neg-order (n * suc a) (n * suc b) (mul-le-mul_left n (omega (arith, leb→le b a h.le)))

next-below : (a b : ℤ) → le_z b a ≡ false → suc_ℤ a ≤ℤ b
next-below (pos m) (pos n) e = record { le = le→leb (suc m) n (leb-false n m e) }
next-below (pos m) (negsuc n) e = absurd (true≢false e)
next-below (negsuc zero) (pos n) e = record { le = le→leb 0 n zero-le }
next-below (negsuc (suc m)) (pos n) e = record { le = tt }
next-below (negsuc zero) (negsuc n) e = absurd (omega (arith, leb-false 0 n e))
next-below (negsuc (suc m)) (negsuc n) e = record { le = le→leb n m (omega (arith, leb-false (suc m) n e)) }

-- no multiple beyond the next is not above
no-larger : (k v times : ℤ) → pos 1 ≤ℤ k → v <ℤ (k *ℤ (times +ℤ pos 1)) → (other : ℤ) → (k *ℤ other) ≤ℤ v → (k *ℤ other) ≤ℤ (k *ℤ times)
no-larger (pos n) v times p above other h = go (le_z other times) refl
  where
    go : (t : Bool) → le_z other times ≡ t → (pos n *ℤ other) ≤ℤ (pos n *ℤ times)
    go true e = times-order n other times (record { le = so e })
    go false e = clash_ℤ (<ℤ-≤ℤ_trans (rw +ℤ_one at above) (times-order n (suc_ℤ times) other (next-below times other e))) h
no-larger (negsuc n) v times p above other h = absurd p.le

pub band-is-multiple : BandIsMultiple
band-is-multiple k v p e f =
    let m = band-multiple k v (both-in k v e f) p in (
      k *ℤ m.times,
      record { times = m.times; multiple = refl; below = m.below; largest = no-larger k v m.times p m.above },
      rw m.multiple (settles (k *ℤ m.times)),
    )

pub cut-and-band-of-over : CutAndBandOfOver
cut-and-band-of-over v e = (λ k. cut_out k v e, λ k. band-out k v (right-out k v e))
