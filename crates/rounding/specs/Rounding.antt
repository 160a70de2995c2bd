-- The average of a group, from its exact sum and its rows.
-- Assumes nothing.
use Rattle.std.specs.Prelude.{Bool, cond, ◌&&◌, ◌||◌, ℕ, ◌%◌, eqb, ltb, ℤ, pos, nat_abs, ◌+ℤ◌, ◌-ℤ◌, ◌*ℤ◌}
use Rattle.value.specs.Range.{OVER, settled}
use Rattle.value.specs.Division.{floored}

-- How far a whole number q is from total / rows, in parts of 1 / rows.
unfoldable pub distance : ℤ → ℕ → ℤ → ℕ
distance total rows q = nat_abs (total -ℤ pos rows *ℤ q)

unfoldable pub even : ℤ → Bool
even q = eqb (nat_abs q % 2) 0

-- Whether q is nearer to total / rows than p, or as near and even.
unfoldable pub nearer : ℤ → ℕ → ℤ → ℤ → Bool
nearer total rows q p =
    ltb (distance total rows q) (distance total rows p)
    || (eqb (distance total rows q) (distance total rows p) && even q)

-- #105: "the nearest whole number, ties to the even one". Beside total / rows stand the number rounded down and one more.
unfoldable pub rounded : ℤ → ℕ → ℤ
rounded total rows =
    let down = floored total rows in
    let up = down +ℤ pos 1 in
    cond (nearer total rows down up) down up

-- No rows have no average: OVER.
unfoldable pub average : ℤ → ℕ → ℤ
average total rows = cond (ltb 0 rows) (settled (rounded total rows)) OVER
