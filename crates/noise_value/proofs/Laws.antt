-- What a value with noise is, by the size of the draw. Assumes nothing.
use mathlib.Core.Path.{◌≡◌, refl, sym, ◌∙◌}
use mathlib.Core.Bool.{Bool, true, false, ◌&&◌, and-eq-true_iff}
use Prim.Native.Nat.{◌-◌, ◌^◌, ◌≤◌, ◌<◌}
use native.Mathlib.Omega.{arith}
use lib.Dec.{ltb}
use lib.IntN.{ℤ, pos, negsuc, ◌+ℤ◌, ◌-ℤ◌, +ℤ_comm, +ℤ-neg_ℤ_cancel}
use lib.Signed.{mag, le_z}
use mir.Syntax.{w64}
use mir.Val.{SFits}
use borrow.Author.Rules.{sfits_of}
use borrow.Author.Tests.{leb-true, leb-false, ltb-true, ltb-false}
use Rattle.value.specs.Range.{in_range, OVER, settled}
use Rattle.value.proofs.Integers.{mag-plus, mag-minus}
use Rattle.value.proofs.Sizes.{between, in_size, size-out}
use Rattle.value.proofs.Laws.Range.{settled-in, settled-out}
use Rattle.noise_value.specs.Noise.{noisy}
use Rattle.noise_value.specs.Sentences.{NoisyIsSum}

-- what `near` tests
abbrev pub is_near : ℤ → Bool
is_near draw = le_z (negsuc (2 ^ 49 - 1)) draw && le_z draw (pos (2 ^ 49 - 1))

-- a sum with a draw that is near fits 64 bits
pub near_fits : (value draw : ℤ) → in_range value ≡ true → is_near draw ≡ true → SFits w64 (value +ℤ draw)
near_fits value draw e n =
    let near : mag draw < 2 ^ 49 = omega (arith, leb-true (mag draw) (2 ^ 49 - 1) (sym (between (2 ^ 49 - 1) draw) ∙ n)) in
    sfits_of (omega (arith, mag-plus value draw (in_size value e) near))

-- and one with a draw that is not is out of range: a sum in range, less the value, would be near
pub far-out : (value draw : ℤ) → in_range value ≡ true → is_near draw ≡ false → in_range (value +ℤ draw) ≡ false
far-out value draw e n =
    size-out (value +ℤ draw) (either (ltb (mag (value +ℤ draw)) (2 ^ 47)) refl)
  where
    far : 2 ^ 49 - 1 < mag draw
    far = leb-false (mag draw) (2 ^ 49 - 1) (sym (between (2 ^ 49 - 1) draw) ∙ n)

    back : (value +ℤ draw) -ℤ value ≡ draw
    back = rw (+ℤ_comm value draw) (+ℤ-neg_ℤ_cancel draw value)

    either : (b : Bool) → ltb (mag (value +ℤ draw)) (2 ^ 47) ≡ b → 2 ^ 47 ≤ mag (value +ℤ draw)
    either true t = absurd (omega (arith, far, rw back at (mag-minus (value +ℤ draw) value (ltb-true _ _ t) (in_size value e))))
    either false t = ltb-false _ _ t

pub noisy-in : (value draw : ℤ) → in_range value ≡ true → noisy value draw ≡ settled (value +ℤ draw)
unfolding noisy
noisy-in value draw e = rw e

pub noisy-out : (value draw : ℤ) → in_range value ≡ false → noisy value draw ≡ OVER
unfolding noisy
noisy-out value draw e = rw e

pub noisy-is-sum : NoisyIsSum
noisy-is-sum value draw = (
  λ e. record {
    inside = λ i. noisy-in value draw e ∙ settled-in (value +ℤ draw) i;
    outside = λ o. noisy-in value draw e ∙ settled-out (value +ℤ draw) o;
  },
  noisy-out value draw,
)

-- as the code tests it
pub tested-true : (value draw : ℤ) → (in_range value && is_near draw) ≡ true → noisy value draw ≡ settled (value +ℤ draw)
tested-true value draw t = noisy-in value draw ((and-eq-true_iff (in_range value) (is_near draw)).0 t).0

pub tested-false : (value draw : ℤ) → (in_range value && is_near draw) ≡ false → noisy value draw ≡ OVER
tested-false value draw t = either (in_range value) refl
  where
    either : (b : Bool) → in_range value ≡ b → noisy value draw ≡ OVER
    either true e = noisy-in value draw e ∙ settled-out (value +ℤ draw) (far-out value draw e (rw e at t))
    either false e = noisy-out value draw e
