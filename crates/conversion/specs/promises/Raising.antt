-- What the functions that raise labels promise one another.
use Rattle.std.specs.Prelude.{ℕ, ◌+◌, ◌≡◌, List, length}
use Rattle.std.proofs.lemmas.List.Edits.{sets}
use Rattle.conversion.specs.Conversion.{raised_at}

-- the labels at these offsets are raised in the new container, and the offsets stand in their slice from element `count` on
pub record Raised (ones : List ℕ) (count : ℕ) (new offsets : List ℕ) (found : ℕ) (raised told : List ℕ) : Type 0 where
  pub counted : found ≡ count + length ones
  pub in-new : raised ≡ raised_at new ones
  pub in-offsets : told ≡ sets offsets count ones
