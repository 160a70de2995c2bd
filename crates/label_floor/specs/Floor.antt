-- #108: "The new canvass rule sets at least ten sheets for any aggregate, but earlier elections keep the earlier rule."
use Rattle.std.specs.Prelude.{ℕ, ◌+◌, ◌-◌, cond, ◌&&◌, eqb, ltb}
use Rattle.label_words.specs.Word.{has_a, minimum_of}

-- how small a group minimum is read under a rule year (#108): "0 as now, 1 for the floor"
abbrev pub floor_of : ℕ → ℕ
floor_of year = cond (eqb year 1) 10 0

-- "each A minimum below ten is read as ten". The minimum is the lowest field of a label, and nothing else of it moves.
unfoldable pub floored : ℕ → ℕ → ℕ
floored year label = cond (has_a label && ltb (minimum_of label) (floor_of year)) (label - minimum_of label + floor_of year) label
