-- `label_words::fields::field` meets its contract: a shift divides, and a mask of ones is a remainder. Assumes nothing.
use Prim.Native.Nat.{ℕ, ◌*◌, ◌%◌, ◌^◌, ◌≤◌, ◌<◌}
use mathlib.Core.Path.{◌≡◌, sym}
use native.Mathlib.Nat.{one-mul, zero-mod, div-le_self, div-eq_of_lt, mod-eq_of_lt, pow-le-pow_right, lt_of_le_of_lt, lt_of_lt_of_le}
use native.Mathlib.Omega.{arith}
use lib.Bits.{and_mask}
use lib.Dec.{lit<}
use lib.Pow.{shl_exact, pow_pos}
use Rattle.label_words.specs.Word.{field_at}
use Rattle.label_words.proofs.fields.field.Goals as goal

one_shifted : (k : ℕ) → k < 32 → 1 * 2 ^ k % 2 ^ 32 ≡ 2 ^ k
one_shifted k h = rw (shl_exact {a = 1} 1 k 32 (lit< tt) (omega arith), one-mul)

below_power : {x k : ℕ} → x < 2 ^ 32 → 32 ≤ k → x < 2 ^ k
below_power h k = lt_of_lt_of_le h (pow-le-pow_right (lit< tt) k)

pub returns-then-at-ge32 : goal.returns-then-at-ge32
unfolding field_at
returns-then-at-ge32 c = rw (div-eq_of_lt (below_power c.ranges.word.fits c.if-at-ge32.true)) (sym (zero-mod (2 ^ c.args.width)))

pub returns-then-width-ge32 : goal.returns-then-width-ge32
unfolding field_at
returns-then-width-ge32 c = sym (mod-eq_of_lt (below_power (lt_of_le_of_lt (div-le_self _ _) c.ranges.word.fits) c.if-width-ge32.true))

pub overflow_sub-result : goal.overflow_sub-result
overflow_sub-result c = rw (one_shifted c.args.width c.if-width-ge32.false) (pow_pos c.args.width)

pub returns : goal.returns
unfolding field_at
returns c = rw (one_shifted c.args.width c.if-width-ge32.false) (and_mask _ c.args.width)
