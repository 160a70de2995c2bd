-- #105's sentence on the average, as theorems about the definitions beside this file. Each is proved; nothing here is to be believed.
use Rattle.std.specs.Prelude.{◌≡◌, true, ◌⊎◌, ℕ, ◌≤◌, ◌<◌, ℤ}
use Rattle.rounding.specs.Rounding.{distance, even, rounded}

-- "the nearest whole number, ties to the even one": q is that of total / rows
pub record Nearest (rows : ℕ) (total q : ℤ) : Type 0 where
  -- no whole number is nearer
  pub nearest : (other : ℤ) → distance total rows q ≤ distance total rows other
  -- where another is as near, q is even
  pub tie : (other : ℤ) → distance total rows other ≡ distance total rows q → (other ≡ q) ⊎ (even q ≡ true)

-- of every sum and count
abbrev pub RoundedIsNearest : Type 0
RoundedIsNearest = (total : ℤ) (rows : ℕ) → 0 < rows → Nearest rows total (rounded total rows)

-- and there is no second such number
abbrev pub NearestIsOne : Type 0
NearestIsOne = (total : ℤ) (rows : ℕ) → 0 < rows → (q : ℤ) → Nearest rows total q → q ≡ rounded total rows
