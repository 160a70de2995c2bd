-- The marks of rows that have no sheet number. These are theorems about the definitions, each proved; nothing here is to be believed.
use Rattle.std.specs.Prelude.{ℕ, ◌<◌, ◌≡◌, true, false, ℤ}
use Rattle.plan.specs.Sheets.{own_mark}
use Rattle.value.specs.Pattern.{negative, magnitude_of}
use Rattle.value.specs.Range.{in_range}

-- "for byte 1 zero, a mark shared with no other table row": two such rows with one mark are one row of one table, and no sheet number,
-- a value that is not negative, is such a mark
abbrev pub MarksOfTheirOwn : Type 0
MarksOfTheirOwn =
    ((table row table' row' : ℕ) → row < 256 → row' < 256 → own_mark table row ≡ own_mark table' row' → (table ≡ table') × (row ≡ row'))
    × ((value : ℤ) (table row : ℕ) → in_range value ≡ true → negative value ≡ false → ¬ (magnitude_of value ≡ own_mark table row))
