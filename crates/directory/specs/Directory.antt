-- "The first part begins where the directory ends, each next one where the last ends, and the final one ends the container." #106: an overlay has "a
-- directory by the container's rule".
use Rattle.std.specs.Prelude.{ℕ, zero, suc, ◌+◌, ◌-◌, not, List, eqb, length}
use Rattle.input.specs.Verdict.{InputVerdict, and_then, reject_if}
use Rattle.layout.specs.Layout.{pair_at, offset_of, length_of}

-- "12: a pair breaks the rule above. Place: the first such pair; the last pair if the end is wrong." The number is 12 of a container, 21 of an overlay.
abbrev pub check_pairs : ℕ → List ℕ → ℕ → ℕ → ℕ → InputVerdict
check_pairs number bytes part zero expected = reject_if (not (eqb expected (length bytes))) number (pair_at (part - 1))
check_pairs number bytes part (suc more) expected =
    and_then (reject_if (not (eqb (offset_of bytes part) expected)) number (pair_at part))
    (check_pairs number bytes (suc part) more (expected + length_of bytes part))

-- of a directory with so many pairs
unfoldable pub check_directory : ℕ → ℕ → List ℕ → InputVerdict
check_directory number count bytes = check_pairs number bytes 0 count (pair_at count)
