-- "Plan: 1 to 64 steps of 16 bytes".
use Rattle.std.specs.Prelude.{ℕ, ◌/◌, ◌%◌, Bool, ◌&&◌, List, eqb, leb, length}

abbrev pub step_count : List ℕ → ℕ
step_count part = length part / 16

-- "16: plan length."
unfoldable pub length_fits : List ℕ → Bool
length_fits part = eqb (length part % 16) 0 && leb 1 (step_count part) && leb (step_count part) 64
