-- What plus, minus, cut and band are: exact where the operands and the result are in range, and OVER elsewhere.
-- Assumes nothing.
use mathlib.Core.Path.{◌≡◌, refl}
use mathlib.Core.Logic.{inl}
use mathlib.Core.Bool.{Bool, true, false, ◌&&◌, and-eq-true_iff}
use Prim.Native.Nat.{ℕ, ◌^◌, ◌≤◌}
use native.Mathlib.Nat.{lt_of_le_of_lt, one-le-pow}
use lib.Dec.{leb, leb→le, lit<}
use lib.IntN.{ℤ, pos, negsuc, nat_abs, ◌+ℤ◌, ◌-ℤ◌, ◌*ℤ◌, +ℤ_one}
use lib.Signed.{le_z, quot_z, rem_z, shr_z, ◌≤ℤ◌, ◌<ℤ◌}
use borrow.Author.Tests.{le-leb}
use Rattle.value.specs.Range.{in_range, both_in_range, OVER, settled}
use Rattle.arithmetic.specs.Arithmetic.{plus, minus, cut, band}
use Rattle.value.specs.Division.{floored}
use Rattle.arithmetic.specs.Sentences.{TowardZero}
use Rattle.value.proofs.Integers.{mag-quot, whole, down-below, down-above, rest-small, rest_up, rest-down}
use Rattle.value.proofs.Sizes.{in_size, size_in}
use Rattle.value.proofs.Laws.Range.{Result, guarded, settled-result, of-both-in, of-both-out, of-both-result}

and-false : (b : Bool) → (b && false) ≡ false
and-false true = refl
and-false false = refl

-- ---- plus and minus

pub plus-in : (a b : ℤ) → both_in_range a b ≡ true → plus a b ≡ settled (a +ℤ b)
unfolding plus
plus-in a b e = of-both-in a b (settled (a +ℤ b)) e

pub plus-out : (a b : ℤ) → both_in_range a b ≡ false → plus a b ≡ OVER
unfolding plus
plus-out a b e = of-both-out a b (settled (a +ℤ b)) e

pub plus-result : (a b : ℤ) → Result (plus a b)
unfolding plus
plus-result a b = of-both-result a b (settled (a +ℤ b)) (λ e. settled-result (a +ℤ b))

pub minus-in : (a b : ℤ) → both_in_range a b ≡ true → minus a b ≡ settled (a -ℤ b)
unfolding minus
minus-in a b e = of-both-in a b (settled (a -ℤ b)) e

pub minus-out : (a b : ℤ) → both_in_range a b ≡ false → minus a b ≡ OVER
unfolding minus
minus-out a b e = of-both-out a b (settled (a -ℤ b)) e

pub minus-result : (a b : ℤ) → Result (minus a b)
unfolding minus
minus-result a b = of-both-result a b (settled (a -ℤ b)) (λ e. settled-result (a -ℤ b))

-- ---- cut

pub cut_out : (k : ℕ) (v : ℤ) → in_range v ≡ false → cut k v ≡ OVER
unfolding cut
cut_out k v e = rw (e, and-false (leb 1 k && leb k 6))

pub cut-result : (k : ℕ) (v : ℤ) → Result (cut k v)
unfolding cut
cut-result k v = guarded (leb 1 k && leb k 6 && in_range v) (quot_z v (pos (10 ^ k))) (λ e. inl (small e))
  where
    small : (leb 1 k && leb k 6 && in_range v) ≡ true → in_range (quot_z v (pos (10 ^ k))) ≡ true
    small e =
        size_in (quot_z v (pos (10 ^ k)))
        (lt_of_le_of_lt (mag-quot v (10 ^ k)) (in_size v ((and-eq-true_iff (leb 1 k && leb k 6) (in_range v)).0 e).1))

pub cut-quotient : (k : ℕ) (v : ℤ) → 1 ≤ k → k ≤ 6 → in_range v ≡ true → TowardZero (10 ^ k) v (cut k v)
unfolding cut
cut-quotient k v l h e =
    rw (le-leb 1 k l, le-leb k 6 h, e)
    (record {
      rest = rem_z v (pos (10 ^ k));
      whole = whole v (10 ^ k);
      small = rest-small v (one-le-pow k 10 (lit< tt));
      up = rest_up v (10 ^ k);
      down = rest-down v (10 ^ k);
    })

-- ---- band

pub band-out : (k v : ℤ) → both_in_range k v ≡ false → band k v ≡ OVER
unfolding band
band-out k v e = rw e

pub band-result : (k v : ℤ) → Result (band k v)
unfolding band
band-result k v =
    guarded (both_in_range k v && le_z (pos 1) k) (settled (k *ℤ floored v (nat_abs k))) (λ e. settled-result (k *ℤ floored v (nat_abs k)))

-- r is the largest multiple of k not above v where that is in range, and OVER where it is not
pub record Multiple (k v r : ℤ) : Type 0 where
  pub times : ℤ
  pub multiple : r ≡ settled (k *ℤ times)
  pub below : (k *ℤ times) ≤ℤ v
  pub above : v <ℤ (k *ℤ (times +ℤ pos 1))

pub band-multiple : (k v : ℤ) → both_in_range k v ≡ true → pos 1 ≤ℤ k → Multiple k v (band k v)
unfolding band floored
band-multiple (pos n) v e p =
    let l = leb→le 1 n p.le in
    rw (e, le-leb 1 n l)
    (record { times = shr_z v n; multiple = refl; below = down-below v l; above = rw +ℤ_one (down-above v l) })
band-multiple (negsuc n) v e p = absurd p.le
