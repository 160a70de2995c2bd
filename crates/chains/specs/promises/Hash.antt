-- A hash value of a row's keys.
use Rattle.std.specs.Prelude.{ℕ, zero, suc, ◌*◌, ◌/◌, ◌%◌, ◌^◌, cond, List, ℤ, pos, length, get_or}
use Rattle.std.specs.Int.Bits.{bit_or, bit_xor}
use Rattle.plan.specs.Masks.{in_mask}
use Rattle.value.specs.Pattern.{negative, magnitude_of}
use Rattle.value.specs.Range.{settled}

-- a key's bits: its magnitude, and below it its sign
abbrev pub key_bits : ℤ → ℕ
key_bits key = bit_or (magnitude_of key * 2 % 2 ^ 64) (cond (negative key) 1 0)

-- with one key more: 64 bits rotated by 8, exclusive or the key's
unfoldable pub with_key : ℕ → ℤ → ℕ
with_key hash value = bit_xor (bit_or (hash * 2 ^ 8 % 2 ^ 64) (hash / 2 ^ 56)) (key_bits (settled value))

-- that of the keys among the first columns of a row, and of all its keys
abbrev pub hash_upto : ℕ → List ℤ → ℕ → ℕ
hash_upto keys row zero = 0
hash_upto keys row (suc column) = cond (in_mask keys column) (with_key (hash_upto keys row column) (get_or row column (pos 0))) (hash_upto keys row column)

abbrev pub hash_of : ℕ → List ℤ → ℕ
hash_of keys row = hash_upto keys row (length row)
