-- The words that stand in some bytes. Assumes nothing.
use Prim.Native.Nat.{ℕ, zero, suc, ◌/◌}
use mathlib.Core.Path.{◌≡◌, refl, ap}
use mathlib.Core.List.{List}
use lib.ListN.{length, drop}
use Rattle.label_bytes.specs.Words.{words_from, words_of}

length_from : (n : ℕ) (bytes : List ℕ) → length (words_from n bytes) ≡ n
length_from zero bytes = refl
length_from (suc n) bytes = ap suc (length_from n (drop 4 bytes))

module _ (bytes : List ℕ) where
  pub words-length : length (words_of bytes) ≡ length bytes / 4
  unfolding words_of
  words-length = length_from (length bytes / 4) bytes
