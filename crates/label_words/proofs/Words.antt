-- Words and their fields. Assumes nothing.
use Prim.Native.Nat.{ℕ, zero, suc, ◌+◌, ◌-◌, ◌/◌, ◌^◌, ◌≤◌, ◌<◌}
use mathlib.Core.Path.{◌≡◌, refl, sym, ap, ◌∙◌}
use mathlib.Core.Bool.{Bool}
use native.Mathlib.Nat.{mod-lt}
use native.Mathlib.Omega.{arith}
use lib.Count.{ones, count_leading_zeros}
use lib.Dec.{T, eqb, leb, eqb→eq, leb→le}
use lib.Pow.{shr-shr, shr_lt, pow_pos}
use Rattle.label_words.specs.Stages.{one, stage_count, topmost, highest}
use Rattle.label_words.specs.Word.{field_at, bit_at}
use Rattle.label_words.specs.declared.Highest.{Highest}
use Rattle.label_words.specs.declared.Highest.TheVariants.{H, A, N, Clear}
use Rattle.label_words.proofs.Below.{below}

-- a field is below the power of its width
pub field_lt : (word at width : ℕ) → field_at word at width < 2 ^ width
unfolding field_at
field_lt word at width = mod-lt (word / 2 ^ at) (pow_pos width)

-- a field of the upper bits is a field of the word
pub field-of-upper : (word a b width : ℕ) → field_at (word / 2 ^ a) b width ≡ field_at word (a + b) width
unfolding field_at
field-of-upper word a b width = rw shr-shr

-- ---- the stages, by a test at each of the sixteen numbers that the top four bits can be

counted : ℕ → Bool
counted s = eqb (ones s) (one (bit_at s 3) + one (bit_at s 2) + one (bit_at s 1) + one (bit_at s 0))

pub ones-of-four : (s : ℕ) → s < 16 → ones s ≡ one (bit_at s 3) + one (bit_at s 2) + one (bit_at s 1) + one (bit_at s 0)
unfolding counted ones field_at
ones-of-four s h = eqb→eq _ _ (below 16 counted tt s h)

-- a stage's place in the falling order; a clear label comes last
abbrev rank : Highest → ℕ
rank H = 0
rank Highest.T = 1
rank A = 2
rank N = 3
rank Clear = 4

abbrev pub of_rank : ℕ → Highest
of_rank zero = H
of_rank (suc zero) = Highest.T
of_rank (suc (suc zero)) = A
of_rank (suc (suc (suc zero))) = N
of_rank (suc (suc (suc (suc k)))) = Clear

of-rank : (h : Highest) (k : ℕ) → T (eqb (rank h) k) → h ≡ of_rank k
of-rank H k t = ap of_rank (eqb→eq 0 k t)
of-rank Highest.T k t = ap of_rank (eqb→eq 1 k t)
of-rank A k t = ap of_rank (eqb→eq 2 k t)
of-rank N k t = ap of_rank (eqb→eq 3 k t)
of-rank Clear k t = ap of_rank (eqb→eq 4 k t)

from-four : (k : ℕ) → 4 ≤ k → of_rank k ≡ Clear
from-four zero h = absurd (omega arith)
from-four (suc zero) h = absurd (omega arith)
from-four (suc (suc zero)) h = absurd (omega arith)
from-four (suc (suc (suc zero))) h = absurd (omega arith)
from-four (suc (suc (suc (suc k)))) h = refl

padded : ℕ → Bool
padded s = leb 28 (count_leading_zeros 32 s)

ranked : ℕ → Bool
ranked s = eqb (rank (topmost (bit_at s 3) (bit_at s 2) (bit_at s 1) (bit_at s 0))) (count_leading_zeros 32 s - 28)

module _ (word : ℕ) (fits : word < 2 ^ 32) where
  top_lt : word / 2 ^ 28 < 16
  top_lt = shr_lt 4 28 fits

  -- the stage bits of the word are those of its top four bits
  pub count-is : ones (word / 2 ^ 28) ≡ stage_count word
  unfolding stage_count
  count-is = rw (← field-of-upper word 28 3 1, ← field-of-upper word 28 2 1, ← field-of-upper word 28 1 1, ← field-of-upper word 28 0 1) (ones-of-four (word / 2 ^ 28) top_lt)

  pub zeros-above : 28 ≤ count_leading_zeros 32 (word / 2 ^ 28)
  unfolding padded count_leading_zeros
  zeros-above = leb→le 28 (count_leading_zeros 32 (word / 2 ^ 28)) (below 16 padded tt (word / 2 ^ 28) top_lt)

  highest-is : highest word ≡ of_rank (count_leading_zeros 32 (word / 2 ^ 28) - 28)
  unfolding ranked highest count_leading_zeros field_at
  highest-is = rw (← field-of-upper word 28 3 1, ← field-of-upper word 28 2 1, ← field-of-upper word 28 1 1, ← field-of-upper word 28 0 1) (of-rank _ _ (below 16 ranked tt (word / 2 ^ 28) top_lt))

  -- the stage that so many zeros name
  pub highest-at : (k : ℕ) → count_leading_zeros 32 (word / 2 ^ 28) - 28 ≡ k → of_rank k ≡ highest word
  highest-at k e = ap of_rank (sym e) ∙ sym highest-is

  pub highest-clear : 4 ≤ count_leading_zeros 32 (word / 2 ^ 28) - 28 → Clear ≡ highest word
  highest-clear h = sym (from-four _ h) ∙ sym highest-is
