-- Masks of one column or two, by a test of each of the eight columns. Assumes nothing.
use Prim.Native.Nat.{ℕ, ◌*◌, ◌/◌, ◌%◌, ◌^◌, ◌<◌}
use mathlib.Core.Path.{◌≡◌, refl}
use mathlib.Core.Bool.{Bool, true, false, ◌||◌, beq}
use lib.Bits.{bit_or}
use lib.Dec.{T, eqb}
use borrow.Author.Tests.{eq-eqb, ne_eqb}
use Rattle.plan.specs.Masks.{in_mask}
use Rattle.label_words.proofs.Below.{all_below, below}

beq-eq : (a b : Bool) → T (beq a b) → a ≡ b
beq-eq true true t = refl
beq-eq true false t = absurd t
beq-eq false true t = absurd t
beq-eq false false t = refl

pairs : ℕ → ℕ → ℕ → Bool
pairs a b c = beq (in_mask (bit_or (1 * 2 ^ a % 2 ^ 32) (1 * 2 ^ b % 2 ^ 32)) c) (eqb c a || eqb c b)

pub two-columns : (a b c : ℕ) → a < 8 → b < 8 → c < 8 → in_mask (bit_or (1 * 2 ^ a % 2 ^ 32) (1 * 2 ^ b % 2 ^ 32)) c ≡ (eqb c a || eqb c b)
unfolding pairs in_mask
two-columns a b c ha hb hc =
    beq-eq _ _ (below 8 (pairs a b) (below 8 (λ b. all_below 8 (pairs a b)) (below 8 (λ a. all_below 8 (λ b. all_below 8 (pairs a b))) tt a ha) b hb) c hc)

single : ℕ → ℕ → Bool
single a c = beq (in_mask (1 * 2 ^ a % 2 ^ 32) c) (eqb c a)

pub one-column : (a c : ℕ) → a < 8 → c < 8 → in_mask (1 * 2 ^ a % 2 ^ 32) c ≡ eqb c a
unfolding single in_mask
one-column a c ha hc = beq-eq _ _ (below 8 (single a) (below 8 (λ a. all_below 8 (single a)) tt a ha) c hc)

-- a test of one bit
pub bit-one : (mask c : ℕ) → mask / 2 ^ c % 2 ≡ 1 → in_mask mask c ≡ true
unfolding in_mask
bit-one mask c e = eq-eqb (mask / 2 ^ c % 2) 1 e

pub bit-none : (mask c : ℕ) → (mask / 2 ^ c % 2 ≡ 1 → ⊥) → in_mask mask c ≡ false
unfolding in_mask
bit-none mask c n = ne_eqb (mask / 2 ^ c % 2) 1 n
