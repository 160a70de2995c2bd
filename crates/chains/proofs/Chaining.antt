-- The next row of each row's group. Assumes nothing.
use Prim.Native.Nat.{ℕ, ◌+◌, ◌≤◌, ◌<◌}
use mathlib.Core.Path.{◌≡◌, refl, sym, ◌∙◌}
use mathlib.Core.Bool.{Bool, true, false}
use mathlib.Core.List.{List}
use native.Mathlib.Omega.{arith}
use lib.Dec.{eqb}
use lib.ListN.{length, get_or, set, length-set}
use lib.Seq.{get_or-set_same, get_or-set_other}
use borrow.Author.Tests.{eqb-true, eqb-false}
use Rattle.chains.specs.promises.Chains.{FirstLed, Chain, Onward}

-- the rows from one on have their next rows, and each number its first row among them
pub record Chaining (rows : ℕ) (leaders next ahead : List ℕ) (row : ℕ) : Type 0 where
  pub full : length next ≡ 256
  pub full-ahead : length ahead ≡ 256
  pub upto : row ≤ rows
  pub first : (number : ℕ) → number < 256 → FirstLed rows leaders number row (get_or ahead number 0)
  pub each : (other : ℕ) → row ≤ other → other < rows → FirstLed rows leaders (get_or leaders other 0) (other + 1) (get_or next other 0)

-- no row is left
pub none-led : (rows : ℕ) (leaders : List ℕ) (number : ℕ) → FirstLed rows leaders number rows rows
none-led rows leaders number = record { onward = omega arith; upto = omega arith; led = λ h. absurd (omega arith); none = λ other h k e. omega arith }

-- one row more
module _ {rows : ℕ} {leaders next ahead : List ℕ} (row : ℕ) (c : Chaining rows leaders next ahead (row + 1)) (few : rows ≤ 256) (small : get_or leaders row 0 < 256) where
  abbrev leader : ℕ
  leader = get_or leaders row 0

  itself : FirstLed rows leaders leader row row
  itself = record { onward = omega arith; upto = omega (arith, c.upto); led = λ h. refl; none = λ other h k e. omega arith }

  other-led : (number at : ℕ) → (number ≡ leader → ⊥) → FirstLed rows leaders number (row + 1) at → FirstLed rows leaders number row at
  other-led number at n f = record { onward = omega (arith, f.onward); upto = f.upto; led = f.led; none = λ other h k e. go other h k e (eqb other row) refl }
    where
      go : (other : ℕ) → row ≤ other → other < at → get_or leaders other 0 ≡ number → (b : Bool) → eqb other row ≡ b → ⊥
      go other h k e true t = let s : other ≡ row = eqb-true other row t in n (sym e ∙ rw s)
      go other h k e false t = let s = eqb-false other row t in f.none other (omega arith) k e

  pub chain_more : Chaining rows leaders (set next row (get_or ahead leader 0)) (set ahead leader row) row
  chain_more = record {
    full = rw length-set c.full;
    full-ahead = rw length-set c.full-ahead;
    upto = omega (arith, c.upto);
    first = λ number h. first number h (eqb number leader) refl;
    each = λ other h k. each other h k (eqb other row) refl;
  }
    where
      first : (number : ℕ) → number < 256 → (b : Bool) → eqb number leader ≡ b → FirstLed rows leaders number row (get_or (set ahead leader row) number 0)
      first number h true t = rw (eqb-true number leader t, get_or-set_same ahead leader row 0 (omega (arith, c.full-ahead))) itself
      first number h false t = rw (get_or-set_other ahead leader number row 0 (eqb-false number leader t)) (other-led number (get_or ahead number 0) (eqb-false number leader t) (c.first number h))

      each : (other : ℕ) → row ≤ other → other < rows → (b : Bool) → eqb other row ≡ b → FirstLed rows leaders (get_or leaders other 0) (other + 1) (get_or (set next row (get_or ahead leader 0)) other 0)
      each other h k true t = rw (eqb-true other row t, get_or-set_same next row (get_or ahead leader 0) 0 (omega (arith, c.full, c.upto))) (c.first leader small)
      each other h k false t = let n = eqb-false other row t in rw (get_or-set_other next row other (get_or ahead leader 0) 0 n) (c.each other (omega arith) k)

-- every row has its next row
module _ {rows : ℕ} {leaders next ahead : List ℕ} (c : Chaining rows leaders next ahead 0) where
  pub onward : Onward rows next
  onward = record { full = c.full; further = λ row h. omega (arith, (c.each row (omega arith) h).onward); upto = λ row h. (c.each row (omega arith) h).upto }

  pub chained : rows ≤ length leaders → Chain rows leaders next
  chained long = record { long = long; each = λ row h. c.each row (omega arith) h }
