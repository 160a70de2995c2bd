-- The test for a minimum below ten and the minimum ten, by masks. Assumes nothing.
use Prim.Native.Nat.{ℕ, ◌/◌, ◌%◌, ◌^◌, ◌≤◌, ◌<◌}
use mathlib.Core.Path.{◌≡◌}
use mathlib.Core.Bool.{◌&&◌}
use native.Mathlib.Omega.{arith}
use lib.Bits.{bit_and, bit_or, bit_xor, and_high, or_shifted}
use lib.Dec.{ltb, lit<}
use borrow.Author.Tests.{lt-ltb, le-ltb}
use Rattle.label_words.specs.Word.{field_at, has_a, minimum_of}
use Rattle.label_floor.specs.Floor.{floored}
use Rattle.label_words.proofs.Masks.{bit-and-minimum, turned}
use Rattle.label_words.proofs.Words.{field_lt}

module _ (word : ℕ) where
  below-by-mask : ltb (bit_xor (bit_and word 0x200003FF) 0x20000000) 10 ≡ (has_a word && ltb (minimum_of word) 10)
  below-by-mask = rw (bit-and-minimum word) (turned (field_at word 29 1) (minimum_of word) 10 (field_lt word 29 1) (field_lt word 0 10) (omega arith))

  pub below-ten : word < 2 ^ 32 → bit_xor (bit_and word 0x200003FF) 0x20000000 < 10 → bit_or (bit_and word 0xFFFFFC00) 10 ≡ floored 1 word
  unfolding floored field_at
  below-ten h k = rw (← below-by-mask, lt-ltb _ 10 k, and_high word 22 10, or_shifted (word / 2 ^ 10 % 2 ^ 22) 10 10 (lit< tt)) (omega arith)

  pub from-ten : 10 ≤ bit_xor (bit_and word 0x200003FF) 0x20000000 → word ≡ floored 1 word
  unfolding floored
  from-ten k = rw (← below-by-mask, le-ltb _ 10 k)
