-- Document 01's sentence on results, as a theorem about the definitions beside this file. It is proved; nothing here is to be believed.
use Rattle.std.specs.Prelude.{◌≡◌, true, false, ℤ}
use Rattle.value.specs.Range.{in_range, OVER}

-- "A result outside becomes OVER": what is made of an exact result
pub record Settles (exact result : ℤ) : Type 0 where
  pub inside : in_range exact ≡ true → result ≡ exact
  pub outside : in_range exact ≡ false → result ≡ OVER
