-- Zeros past the numbers that are set. Assumes nothing.
use Prim.Native.Nat.{ℕ, zero, suc, ◌-◌}
use mathlib.Core.Path.{◌≡◌, sym, ap, ◌∙◌}
use native.Mathlib.Omega.{arith}
use lib.ListN.{drop, replicate}

pub zeros-past : (n m : ℕ) → drop {A = ℕ} n (replicate m 0) ≡ replicate (m - n) 0
zeros-past zero m = let e : m - 0 ≡ m = omega arith in rw e
zeros-past (suc n) zero = let e : 0 - suc n ≡ 0 = omega arith in rw e
zeros-past (suc n) (suc m) = let e : suc m - suc n ≡ m - n = omega arith in zeros-past n m ∙ ap (λ (k : ℕ). replicate {A = ℕ} k 0) (sym e)
