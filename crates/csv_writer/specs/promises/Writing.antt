-- What the functions that write a text answer, for all arguments.
use Rattle.std.specs.Prelude.{ℕ, Bool, cond, ◌&&◌, List, ◌++◌, leb, ℤ, length, drop, Option, Some, None, Result, Ok, Err}
use Rattle.cells.specs.promises.Search.{table_within}
use Rattle.csv_text.specs.Text.{text_of, cut}
use Rattle.csv_writer.specs.declared.write.WritingError.{WritingError}
use Rattle.csv_writer.specs.declared.write.WritingError.TheVariants as writing

-- the values have a table of so many rows and columns: 1 to 8 columns, at most 256 rows
abbrev pub is_table : List ℤ → ℕ → ℕ → Bool
is_table values rows columns = leb 1 columns && table_within 0 rows columns (length values)

-- the text of the table at the start of the values
abbrev pub text_from : List ℤ → ℕ → ℕ → List ℕ
text_from values rows columns = text_of columns (cut columns rows values)

-- its length, if there is such a table
abbrev pub text_length : List ℤ → ℕ → ℕ → Option ℕ
text_length values rows columns = cond (is_table values rows columns) (Some (length (text_from values rows columns))) None

-- a slice has room for its text
abbrev pub text_fits : List ℤ → ℕ → ℕ → List ℕ → Bool
text_fits values rows columns text = leb (length (text_from values rows columns)) (length text)

-- what writing answers
abbrev pub writing_of : List ℤ → ℕ → ℕ → List ℕ → Result ℕ WritingError
writing_of values rows columns text =
    cond (is_table values rows columns)
    (cond (text_fits values rows columns text) (Ok (length (text_from values rows columns))) (Err writing.TooShort)) (Err writing.NoTable)

-- the slice with the text from its start on, and all else as it was
abbrev pub text_written : List ℤ → ℕ → ℕ → List ℕ → List ℕ
text_written values rows columns text = text_from values rows columns ++ drop (length (text_from values rows columns)) text

-- the slice afterwards
abbrev pub text_after : List ℤ → ℕ → ℕ → List ℕ → List ℕ
text_after values rows columns text =
    cond (is_table values rows columns && text_fits values rows columns text) (text_written values rows columns text) text
