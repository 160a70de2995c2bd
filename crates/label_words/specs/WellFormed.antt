-- Which words are labels. The chain of the paper's Figure 3 falls by itself here, since each stage has a bit of its own.
use Rattle.std.specs.Prelude.{ℕ, ◌^◌, Bool, cond, ◌&&◌, ◌||◌, eqb, leb, ltb}
use Rattle.label_words.specs.Word.{field_at, bit_at, has_t, has_a, has_n, transforms_of, digits_of, aggregates_of, minimum_of, noise_of}

-- "Bits 22, 21, 15, 14, 13 are zero."
abbrev pub reserved_zero : ℕ → Bool
reserved_zero word = eqb (field_at word 21 2) 0 && eqb (field_at word 13 3) 0

-- "digits, 1 to 6 if cut is allowed, else 0"
unfoldable pub digits_fit : Bool → ℕ → Bool
digits_fit cut_allowed digits = cond cut_allowed (leb 1 digits && leb digits 6) (eqb digits 0)

-- "group minimum, 1 to 1,023 if A is present, else 0". The smallest one is a parameter: #107 moves it, and converts what the check before it accepts.
unfoldable pub minimum_fits : ℕ → Bool → ℕ → Bool
minimum_fits least present minimum = cond present (leb least minimum && leb minimum 1023) (eqb minimum 0)

-- "An absent stage has no allowed bits. A present stage may have none."
abbrev pub transform_fits : ℕ → Bool
transform_fits word = (has_t word || eqb (transforms_of word) 0) && digits_fit (bit_at word 26) (digits_of word)

abbrev pub aggregate_fits : ℕ → ℕ → Bool
aggregate_fits least word = (has_a word || eqb (aggregates_of word) 0) && minimum_fits least (has_a word) (minimum_of word)

abbrev pub noise_fits : ℕ → Bool
noise_fits word = has_n word || eqb (noise_of word) 0

-- a label is one 32-bit word with all of these
unfoldable pub well_formed_from : ℕ → ℕ → Bool
well_formed_from least word = ltb word (2 ^ 32) && reserved_zero word && transform_fits word && aggregate_fits least word && noise_fits word

-- #107: "From now on a minimum is 2 to 1,023"
abbrev pub smallest_minimum : ℕ
smallest_minimum = 2

unfoldable pub well_formed : ℕ → Bool
well_formed word = well_formed_from smallest_minimum word
