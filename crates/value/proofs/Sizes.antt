-- The definitions' tests as facts on sizes, and what follows for sums and differences of values: they fit 64 bits.
-- Assumes nothing.
use mathlib.Core.Path.{◌≡◌, refl, sym, ◌∙◌}
use mathlib.Core.Bool.{Bool, true, false, ◌&&◌}
use Prim.Native.Nat.{ℕ, ◌-◌, ◌^◌, ◌≤◌, ◌<◌}
use native.Mathlib.Omega.{arith}
use lib.Dec.{leb}
use lib.IntN.{ℤ, pos, negsuc, ◌+ℤ◌, ◌-ℤ◌}
use lib.Signed.{mag, le_z}
use mir.Syntax.{w64}
use mir.Val.{SFits}
use borrow.Author.Tests.{leb-true, le-leb, lt-leb}
use borrow.Author.Rules.{sfits_of}
use Rattle.value.specs.Range.{least, most, in_range, both_in_range}
use Rattle.value.proofs.Integers.{mag-plus, mag-minus}
use Rattle.value.proofs.Laws.Range.{in_both}

and-true : (b : Bool) → (b && true) ≡ b
and-true true = refl
and-true false = refl

-- a number from −(n + 1) to n has at most the size n, and the other way round
pub between : (n : ℕ) (z : ℤ) → (le_z (negsuc n) z && le_z z (pos n)) ≡ leb (mag z) n
between n (pos m) = refl
between n (negsuc m) = and-true (leb m n)

pub in_size : (v : ℤ) → in_range v ≡ true → mag v < 2 ^ 47
unfolding in_range least most
in_size v e = omega (arith, leb-true (mag v) (2 ^ 47 - 1) (sym (between (2 ^ 47 - 1) v) ∙ e))

pub size_in : (v : ℤ) → mag v < 2 ^ 47 → in_range v ≡ true
unfolding in_range least most
size_in v h = between (2 ^ 47 - 1) v ∙ le-leb (mag v) (2 ^ 47 - 1) (omega arith)

pub size-out : (v : ℤ) → 2 ^ 47 ≤ mag v → in_range v ≡ false
unfolding in_range least most
size-out v h = between (2 ^ 47 - 1) v ∙ lt-leb (mag v) (2 ^ 47 - 1) (omega arith)

-- sums and differences of values fit 64 bits
pub sum_fits : (a b : ℤ) → both_in_range a b ≡ true → SFits w64 (a +ℤ b)
sum_fits a b e =
    let h = in_both a b e in
    sfits_of (omega (arith, mag-plus a b (in_size a h.0) (in_size b h.1)))

pub difference-fits : (a b : ℤ) → both_in_range a b ≡ true → SFits w64 (a -ℤ b)
difference-fits a b e =
    let h = in_both a b e in
    sfits_of (omega (arith, mag-minus a b (in_size a h.0) (in_size b h.1)))
