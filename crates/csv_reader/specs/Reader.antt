-- The grammar of the text (change requests #101 and #111), as a reader that goes through the bytes one by one.
use Rattle.std.specs.Prelude.{ℕ, suc, ◌+◌, ◌-◌, ◌*◌, ◌/◌, ◌%◌, ◌^◌, Bool, true, false, cond, ◌&&◌, List, [], ◌∷◌, ◌++◌, eqb, leb, ltb, ℤ, pos, neg_ℤ, get_or}
use Rattle.csv_text.specs.Text.{names, cut}
use Rattle.csv_reader.specs.declared.spot.Spot.{Spot}
use Rattle.csv_reader.specs.declared.spot.Spot.TheVariants as spot

-- what reading comes to: the columns and the rows of a table, or the place where the bytes fail
pub data Read : Type 0 where
  table : ℕ → List (List ℤ) → Read
  fails_at : ℕ → Read

-- Where a reader stands (the code's `Spot`): behind so many bytes of the names; behind the header's CR; before a value, behind its minus sign or
-- behind some of its digits, in a row of so many columns of which so many are left with it; behind a row's CR; or nowhere in a text.

-- "values in the value range": the largest size of a value below zero, and of any other
unfoldable pub largest : Bool → ℕ
largest negative = cond negative (2 ^ 47) (2 ^ 47 - 1)

unfoldable pub is_digit : ℕ → Bool
is_digit byte = leb 48 byte && leb byte 57

unfoldable pub digit_of : ℕ → ℕ
digit_of byte = byte - 48

-- behind i bytes of the names: the next one, or, behind a whole name, the CR of a header with enough columns
unfoldable pub after_names : ℕ → ℕ → ℕ → Spot
after_names fewest i byte =
    cond (ltb i 23 && eqb byte (get_or names i 0)) (spot.Names (i + 1))
    (cond (eqb byte 13 && eqb (i % 3) 2 && leb fewest (i / 3 + 1)) (spot.Header (i / 3 + 1)) spot.Wrong)

-- behind a CR
unfoldable pub after_return : ℕ → ℕ → Spot
after_return columns byte = cond (eqb byte 10) (spot.Value columns columns) spot.Wrong

unfoldable pub after_separator : ℕ → ℕ → ℕ → Spot
after_separator columns left byte =
    cond (eqb byte 45) (spot.Minus columns left) (cond (is_digit byte) (spot.Digits columns left false (digit_of byte)) spot.Wrong)

-- no `-0`
unfoldable pub after_minus : ℕ → ℕ → ℕ → Spot
after_minus columns left byte = cond (is_digit byte && ltb 48 byte) (spot.Digits columns left true (digit_of byte)) spot.Wrong

-- no digit behind a leading zero, and none that leaves the range
unfoldable pub more_digits : Bool → ℕ → ℕ → Bool
more_digits negative size byte = is_digit byte && ltb 0 size && leb (10 * size + digit_of byte) (largest negative)

-- CR behind a row's last value, a comma behind any other
unfoldable pub after_digits : ℕ → ℕ → Bool → ℕ → ℕ → Spot
after_digits columns left negative size byte =
    cond (more_digits negative size byte) (spot.Digits columns left negative (10 * size + digit_of byte))
    (cond (eqb left 1 && eqb byte 13) (spot.Row columns) (cond (ltb 1 left && eqb byte 44) (spot.Value columns (left - 1)) spot.Wrong))

unfoldable pub next_spot : ℕ → Spot → ℕ → Spot
next_spot fewest (spot.Names i) byte = after_names fewest i byte
next_spot fewest (spot.Header columns) byte = after_return columns byte
next_spot fewest (spot.Value columns left) byte = after_separator columns left byte
next_spot fewest (spot.Minus columns left) byte = after_minus columns left byte
next_spot fewest (spot.Digits columns left negative size) byte = after_digits columns left negative size byte
next_spot fewest (spot.Row columns) byte = after_return columns byte
next_spot fewest spot.Wrong byte = spot.Wrong

-- the value that a byte which is no digit ends
unfoldable pub value_of : Bool → ℕ → ℤ
value_of negative size = cond negative (neg_ℤ (pos size)) (pos size)

unfoldable pub ended : Spot → ℕ → List ℤ
ended (spot.Names i) byte = []
ended (spot.Header columns) byte = []
ended (spot.Value columns left) byte = []
ended (spot.Minus columns left) byte = []
ended (spot.Digits columns left negative size) byte = cond (is_digit byte) [] (value_of negative size ∷ [])
ended (spot.Row columns) byte = []
ended spot.Wrong byte = []

-- the rows that a byte ends
unfoldable pub rows_ended : Spot → ℕ
rows_ended (spot.Names i) = 0
rows_ended (spot.Header columns) = 0
rows_ended (spot.Value columns left) = 0
rows_ended (spot.Minus columns left) = 0
rows_ended (spot.Digits columns left negative size) = 0
rows_ended (spot.Row columns) = 1
rows_ended spot.Wrong = 0

unfoldable pub is_wrong : Spot → Bool
is_wrong (spot.Names i) = false
is_wrong (spot.Header columns) = false
is_wrong (spot.Value columns left) = false
is_wrong (spot.Minus columns left) = false
is_wrong (spot.Digits columns left negative size) = false
is_wrong (spot.Row columns) = false
is_wrong spot.Wrong = true

-- at the end of the bytes: behind a line a table is whole, with its values in rows
unfoldable pub at_end : Spot → List ℤ → ℕ → ℕ → Read
at_end (spot.Names i) values rows place = fails_at place
at_end (spot.Header columns) values rows place = fails_at place
at_end (spot.Value columns left) values rows place = cond (eqb left columns) (table columns (cut columns rows values)) (fails_at place)
at_end (spot.Minus columns left) values rows place = fails_at place
at_end (spot.Digits columns left negative size) values rows place = fails_at place
at_end (spot.Row columns) values rows place = fails_at place
at_end spot.Wrong values rows place = fails_at place

-- from a spot on, with the values and the rows so far, at a place: "the first byte where the export can no longer be such a text, or its
-- length if it is cut short"
unfoldable pub read_from : ℕ → Spot → List ℤ → ℕ → ℕ → List ℕ → Read
read_from fewest at values rows place [] = at_end at values rows place
read_from fewest at values rows place (byte ∷ bytes) =
    elim (is_wrong (next_spot fewest at byte)) [
      | true ↦ fails_at place
      | false ↦ read_from fewest (next_spot fewest at byte) (values ++ ended at byte) (rows + rows_ended at) (suc place) bytes
    ]

-- a text of at least so many columns; no text has more than 8
unfoldable pub read_text : ℕ → List ℕ → Read
read_text fewest bytes = cond (leb fewest 8) (read_from fewest (spot.Names 0) [] 0 0 bytes) (fails_at 0)
