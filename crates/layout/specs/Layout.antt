-- "First a 16-bit part count, 2 to 9, then a directory with one pair per part, 32-bit offset and 32-bit length". #108: "The high byte of the part count
-- becomes the rule year".
use Rattle.std.specs.Prelude.{ℕ, ◌+◌, ◌*◌, cond, List, [], leb, length, take, drop}
use Rattle.little_endian.specs.Bytes.{number_at, byte_at}

abbrev pub part_count : List ℕ → ℕ
part_count bytes = byte_at bytes 0

-- which rule of group minima holds (#108 coins the word)
abbrev pub rule_year : List ℕ → ℕ
rule_year bytes = byte_at bytes 1

-- the place of a pair
abbrev pub pair_at : ℕ → ℕ
pair_at part = 2 + 8 * part

abbrev pub offset_of : List ℕ → ℕ → ℕ
offset_of bytes part = number_at bytes (pair_at part) 4

abbrev pub length_of : List ℕ → ℕ → ℕ
length_of bytes part = number_at bytes (pair_at part + 4) 4

-- The bytes of a part; none for a pair that the bytes do not hold. "Part 0 is the plan; the others are tables 0, 1 and on."
unfoldable pub part_of : List ℕ → ℕ → List ℕ
part_of bytes part = cond (leb (pair_at part + 8) (length bytes)) (take (length_of bytes part) (drop (offset_of bytes part) bytes)) []
