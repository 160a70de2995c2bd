-- Document 01's sentences on the operations, as theorems about the definitions beside this file. Each is proved; nothing here is to be believed.
use Rattle.std.specs.Prelude.{◌≡◌, true, false, ℕ, ◌^◌, ◌≤◌, ◌<◌, ℤ, pos, nat_abs, ◌+ℤ◌, ◌-ℤ◌, ◌*ℤ◌, ◌≤ℤ◌}
use Rattle.value.specs.Range.{in_range, OVER}
use Rattle.value.specs.Sentences.{Settles}
use Rattle.arithmetic.specs.Arithmetic.{plus, minus, cut, band}

-- ".. and so does any result with an OVER operand"
pub record OfTwo (exact operation : ℤ → ℤ → ℤ) : Type 0 where
  pub values : (a b : ℤ) → in_range a ≡ true → in_range b ≡ true → Settles (exact a b) (operation a b)
  pub over-left : (a b : ℤ) → in_range a ≡ false → operation a b ≡ OVER
  pub over-right : (a b : ℤ) → in_range b ≡ false → operation a b ≡ OVER

abbrev pub PlusIsSum : Type 0
PlusIsSum = OfTwo ◌+ℤ◌ plus

abbrev pub MinusIsDifference : Type 0
MinusIsDifference = OfTwo ◌-ℤ◌ minus

-- q is v divided by n, toward zero: what is left is smaller than n, and has the sign of v or is 0
pub record TowardZero (n : ℕ) (v q : ℤ) : Type 0 where
  pub rest : ℤ
  pub whole : v ≡ pos n *ℤ q +ℤ rest
  pub small : nat_abs rest < n
  pub up : pos 0 ≤ℤ v → pos 0 ≤ℤ rest
  pub down : v ≤ℤ pos 0 → rest ≤ℤ pos 0

-- "cut k: quotient by 10^k, toward zero, k from 1 to 6"
abbrev pub CutIsQuotient : Type 0
CutIsQuotient = (k : ℕ) (v : ℤ) → 1 ≤ k → k ≤ 6 → in_range v ≡ true → TowardZero (10 ^ k) v (cut k v)

-- m is a multiple of k not above v, and no multiple of k not above v is larger
pub record LargestMultiple (k v m : ℤ) : Type 0 where
  pub times : ℤ
  pub multiple : m ≡ k *ℤ times
  pub below : m ≤ℤ v
  pub largest : (other : ℤ) → (k *ℤ other) ≤ℤ v → (k *ℤ other) ≤ℤ m

-- "band k: the largest multiple of k not above the value", k from 1 to 2^47 − 1; OVER exactly where that number is out of range
abbrev pub BandIsMultiple : Type 0
BandIsMultiple = (k v : ℤ) → pos 1 ≤ℤ k → in_range k ≡ true → in_range v ≡ true → (m : ℤ) × LargestMultiple k v m × Settles m (band k v)

abbrev pub CutAndBandOfOver : Type 0
CutAndBandOfOver = (v : ℤ) → in_range v ≡ false → ((k : ℕ) → cut k v ≡ OVER) × ((k : ℤ) → band k v ≡ OVER)
