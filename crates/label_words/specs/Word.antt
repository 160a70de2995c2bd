-- "The label, one 32-bit word": each field by the number of its lowest bit and its width. A word is a number below 2 ^ 32.
use Rattle.std.specs.Prelude.{ℕ, ◌+◌, ◌*◌, ◌/◌, ◌%◌, ◌^◌, Bool, eqb}

-- the `width` bits of a word from bit `at` on, as a number
unfoldable pub field_at : ℕ → ℕ → ℕ → ℕ
field_at word at width = word / 2 ^ at % 2 ^ width

-- whether bit `at` of a word is one
abbrev pub bit_at : ℕ → ℕ → Bool
bit_at word at = eqb (field_at word at 1) 1

-- Bit 31: H present, never discharged
abbrev pub has_h : ℕ → Bool
has_h word = bit_at word 31

-- Bit 30: T (transform)
abbrev pub has_t : ℕ → Bool
has_t word = bit_at word 30

-- Bit 29: A (aggregate)
abbrev pub has_a : ℕ → Bool
has_a word = bit_at word 29

-- Bit 28: N (noise)
abbrev pub has_n : ℕ → Bool
has_n word = bit_at word 28

-- the four stage bits, 31 to 28
abbrev pub stages_of : ℕ → ℕ
stages_of word = field_at word 28 4

-- Bits 27, 26, 25, 24: band, cut, sub, add allowed at T
abbrev pub transforms_of : ℕ → ℕ
transforms_of word = field_at word 24 4

-- Bits 12 to 10: digits
abbrev pub digits_of : ℕ → ℕ
digits_of word = field_at word 10 3

-- Bits 20, 19, 18, 17, 16: avg, max, min, sum, count allowed at A
abbrev pub aggregates_of : ℕ → ℕ
aggregates_of word = field_at word 16 5

-- Bits 9 to 0: group minimum
abbrev pub minimum_of : ℕ → ℕ
minimum_of word = field_at word 0 10

-- Bit 23: noise allowed at N
abbrev pub noise_of : ℕ → ℕ
noise_of word = field_at word 23 1

-- the word with these fields, in the order of the bits; bits 22, 21, 15, 14 and 13 are zero
unfoldable pub packed : ℕ → ℕ → ℕ → ℕ → ℕ → ℕ → ℕ
packed stages transforms noise aggregates digits minimum =
    stages * 2 ^ 28 + transforms * 2 ^ 24 + noise * 2 ^ 23 + aggregates * 2 ^ 16 + digits * 2 ^ 10 + minimum
