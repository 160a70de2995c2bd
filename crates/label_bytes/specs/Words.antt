-- The words that stand in some bytes, four bytes each. Bytes after the last word belong to none.
use Rattle.std.specs.Prelude.{ℕ, zero, suc, ◌/◌, List, [], ◌∷◌, length, take, drop}
use Rattle.little_endian.specs.Bytes.{little_endian}

-- so many words
abbrev pub words_from : ℕ → List ℕ → List ℕ
words_from zero bytes = []
words_from (suc n) bytes = little_endian (take 4 bytes) ∷ words_from n (drop 4 bytes)

unfoldable pub words_of : List ℕ → List ℕ
words_of bytes = words_from (length bytes / 4) bytes
