-- The words of a text, and the numbers that they are. Bytes are in ASCII.
use Rattle.std.specs.Prelude.{ℕ, ◌+◌, ◌-◌, ◌*◌, ◌^◌, Bool, cond, ◌&&◌, ◌||◌, List, [], ◌∷◌, length, take, drop, Option, Some, None, is_some, unwrap_or, option_map, ◌==◌, nat_lt, count_by}
use Rattle.std.specs.List.{slice_get, slice_split, zip, find, list_all}
use Rattle.std.specs.Str.{bytes_eq}
use denote.Ref.{Bor}

-- how often a byte stands in a text
abbrev pub count_of : ℕ → List ℕ → ℕ
count_of byte text = count_by (λ x. x == byte) text

-- the parts of a text, which the byte parts
abbrev pub parts_of : ℕ → List ℕ → List (List ℕ)
parts_of byte text = slice_split (λ x. x == byte) text

-- one of them: the first, or one behind it; past the last, nothing
abbrev pub part_of : ℕ → ℕ → List ℕ → List ℕ
part_of byte index text = unwrap_or (slice_get (parts_of byte text) index) []

-- numbers are below it
abbrev pub bound : ℕ
bound = 2 ^ 48

-- a digit, 0 to 9 or a to f; another byte is none
abbrev pub digit_of : ℕ → Option ℕ
digit_of byte = cond (nat_lt byte 48) None (cond (nat_lt byte 58) (Some (byte - 48)) (cond (nat_lt byte 97) None (cond (nat_lt byte 103) (Some (byte - 87)) None)))

-- a number behind which a digit stands, if the digit is one of the base
abbrev pub behind : ℕ → ℕ → Option ℕ → Option ℕ
behind base number None = None
behind base number (Some digit) = cond (nat_lt digit base && nat_lt (number * base + digit) bound) (Some (number * base + digit)) None

-- a number with one digit more, if there is one
unfoldable pub with_digit : ℕ → Option ℕ → ℕ → Option ℕ
with_digit base None byte = None
with_digit base (Some number) byte = behind base number (digit_of byte)

unfoldable pub with_digits : ℕ → Option ℕ → List ℕ → Option ℕ
with_digits base number [] = number
with_digits base number (byte ∷ rest) = with_digits base (with_digit base number byte) rest

-- the number that a word is: at least one digit
unfoldable pub number_of : ℕ → List ℕ → Option ℕ
number_of base word = cond (length word == 0) None (with_digits base (Some 0) word)

-- the number below 2^32 that a word is
abbrev pub short : Option ℕ → Option ℕ
short None = None
short (Some number) = cond (nat_lt number (2 ^ 32)) (Some number) None

unfoldable pub short_of : ℕ → List ℕ → Option ℕ
short_of base word = short (number_of base word)

-- the 64 bits of a number below zero
unfoldable pub negated : Option ℕ → Option ℕ
negated None = None
negated (Some number) = cond (number == 0) None (Some (2 ^ 64 - number))

-- the 64 bits of the value that a word is: "OVER", which is 2^47, a number, or one behind "-"
unfoldable pub bits_of : List ℕ → Option ℕ
bits_of word =
    cond (bytes_eq word (79 ∷ 86 ∷ 69 ∷ 82 ∷ [])) (Some (2 ^ 47))
    (cond (bytes_eq (take 1 word) (45 ∷ [])) (negated (number_of 10 (drop 1 word))) (number_of 10 word))

-- a word is as a shape's word says: "#" is a number below 2^32, "*" anything, another word itself
unfoldable pub word_fits : List ℕ → List ℕ → Bool
word_fits word shape = cond (bytes_eq shape (35 ∷ [])) (is_some (short_of 10 word)) (bytes_eq shape (42 ∷ []) || bytes_eq word shape)

-- a text has as many words as a shape, and each fits
unfoldable pub shaped : List ℕ → List ℕ → Bool
shaped text shape = count_of 32 text == count_of 32 shape && list_all (λ pair. word_fits pair.0 pair.1) (zip (parts_of 32 text) (parts_of 32 shape))

-- what a table has beside the first shape that a text has
unfoldable pub first_of : {T : Type 0} → List ℕ → List (Bor (List ℕ) × T) → Option T
first_of text table = option_map (λ entry. entry.1) (find (λ entry. shaped text entry.0.now) table)
