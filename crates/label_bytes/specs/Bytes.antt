-- What the bytes of a label are, from the top: the fields of `WellFormed`, each within its byte.
use Rattle.std.specs.Prelude.{ℕ, Bool, ◌&&◌, ◌||◌, eqb}
use Rattle.label_words.specs.Word.{field_at, bit_at}
use Rattle.label_words.specs.WellFormed.{digits_fit}

-- H, T, A, N; band, cut, sub, add
abbrev pub first_fits : ℕ → Bool
first_fits first = bit_at first 6 || eqb (field_at first 0 4) 0

-- noise; two zeros; avg, max, min, sum, count
abbrev pub second_fits : ℕ → ℕ → Bool
second_fits first second = (bit_at first 4 || eqb (field_at second 7 1) 0) && eqb (field_at second 5 2) 0 && (bit_at first 5 || eqb (field_at second 0 5) 0)

-- three zeros; the digits
abbrev pub third_fits : ℕ → ℕ → Bool
third_fits first third = eqb (field_at third 5 3) 0 && digits_fit (bit_at first 2) (field_at third 2 3)
