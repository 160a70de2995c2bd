-- Verdicts of checks that come one after the other, and the answers that say them. Assumes nothing.
use Prim.Native.Nat.{ℕ, suc, ◌-◌, ◌<◌}
use mathlib.Core.Path.{◌≡◌, refl}
use mathlib.Core.Bool.{Bool, true, false}
use native.Mathlib.Omega.{arith}
use Rattle.input.specs.Verdict.{InputVerdict, accepted, rejected, and_then, reject_if}

-- ---- what an accepted verdict says of the tests that it is made of

pub never : (number place : ℕ) → rejected number place ≡ accepted → ⊥
never number place e = let z : ◌≡◌ {A = ℕ} 0 1 = cc in omega arith

pub both : (first later : InputVerdict) → and_then first later ≡ accepted → (first ≡ accepted) × (later ≡ accepted)
both accepted later e = (refl, e)
both (rejected number place) later e = absurd (never number place e)

pub not_so : (fact : Bool) (number place : ℕ) → reject_if fact number place ≡ accepted → fact ≡ false
not_so true number place e = absurd (never number place e)
not_so false number place e = refl

-- of a test that comes first
pub passed : (fact : Bool) (number place : ℕ) (later : InputVerdict) → and_then (reject_if fact number place) later ≡ accepted → (fact ≡ false) × (later ≡ accepted)
passed fact number place later e =
    let b = both (reject_if fact number place) later e in
    (not_so fact number place b.0, b.1)

-- ---- numbers

-- one of what is left to check, and the rest
pub one_left : (i n : ℕ) → i < n → n - i ≡ suc (n - suc i)
one_left i n h = omega arith
