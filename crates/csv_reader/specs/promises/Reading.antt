-- What reading a text into a lent slice answers, and what the slice holds afterwards.
use Rattle.std.specs.Prelude.{ℕ, ◌*◌, ◌^◌, ◌≤◌, ◌≡◌, cond, List, [], ◌∷◌, ◌++◌, eqb, leb, ltb, ℤ, length, take, drop, set, Result, Ok, Err}
use Rattle.cells.specs.promises.Written.{Written}
use Rattle.csv_text.specs.Text.{cut}
use Rattle.csv_reader.specs.Reader.{Read, table, fails_at}
use Rattle.csv_reader.specs.declared.read.Counts.{Counts}
use Rattle.csv_reader.specs.declared.read.ReadingError.{ReadingError}
use Rattle.csv_reader.specs.declared.read.ReadingError.TheVariants as reading
use Rattle.csv_reader.specs.declared.read.TextTable.{TextTable}
use Rattle.csv_reader.specs.declared.spot.Spot.{Spot}
use Rattle.csv_reader.specs.declared.spot.Spot.TheVariants as spot

-- the values of rows, one row after the other
abbrev pub concat : List (List ℤ) → List ℤ
concat [] = []
concat (row ∷ rows) = row ++ concat rows

-- the answer: a table's columns and rows where a slice of that length has room for its values, and else that it does not fit; or the place
abbrev pub reading_of : Read → ℕ → Result TextTable ReadingError
reading_of (table columns rows) room = cond (leb (length (concat rows)) room) (Ok (record { columns = columns; rows = length rows })) (Err reading.DoesNotFit)
reading_of (fails_at place) room = Err (reading.Wrong place)

-- the slice: a table's values from its start on where they fit, and all else as it was
abbrev pub values_after : Read → List ℤ → List ℤ
values_after (table columns rows) old = cond (leb (length (concat rows)) (length old)) (concat rows ++ drop (length (concat rows)) old) old
values_after (fails_at place) old = old

-- ---- one pass over the bytes, that writes the first values

-- a value that a byte ends, where there is room for it
abbrev pub stored : ℕ → List ℤ → List ℤ → List ℤ
stored count [] values = values
stored count (value ∷ more) values = cond (ltb count (length values)) (set values count value) values

abbrev pub size_fits : Spot → Type 0
size_fits (spot.Names i) = Unit
size_fits (spot.Header columns) = Unit
size_fits (spot.Value columns left) = Unit
size_fits (spot.Minus columns left) = Unit
size_fits (spot.Digits columns left negative size) = size ≤ 2 ^ 47
size_fits (spot.Row columns) = Unit
size_fits spot.Wrong = Unit

abbrev pub pass_end : Spot → ℕ → ℕ → ℕ → Result Counts ReadingError
pass_end (spot.Names i) rows count place = Err (reading.Wrong place)
pass_end (spot.Header columns) rows count place = Err (reading.Wrong place)
pass_end (spot.Value columns left) rows count place = cond (eqb left columns) (Ok (record { columns = columns; rows = rows; count = count })) (Err (reading.Wrong place))
pass_end (spot.Minus columns left) rows count place = Err (reading.Wrong place)
pass_end (spot.Digits columns left negative size) rows count place = Err (reading.Wrong place)
pass_end (spot.Row columns) rows count place = Err (reading.Wrong place)
pass_end spot.Wrong rows count place = Err (reading.Wrong place)

-- what a pass tells of what reading comes to, and which values it has written
abbrev pub Passed : Read → List ℤ → Result Counts ReadingError → List ℤ → Type 0
Passed read old (Ok found) new =
    (values : List ℤ) × (read ≡ table found.columns (cut found.columns found.rows values)) × (length values ≡ found.rows * found.columns) × (found.count ≡ length values) × Written old 0 (take (length old) values) new
Passed read old (Err (reading.Wrong place)) new = (values : List ℤ) × (read ≡ fails_at place) × Written old 0 (take (length old) values) new
Passed read old (Err reading.DoesNotFit) new = ⊥
