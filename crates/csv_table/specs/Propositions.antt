-- Sentences on the text and its reader, as theorems about the definitions beside this file. Each is proved; nothing here is to be believed.
use Rattle.std.specs.Prelude.{ℕ, suc, ◌≤◌, ◌<◌, ◌≡◌, true, List, [], ◌++◌, ℤ, length, take}
use Rattle.plan.specs.Table.{Each}
use Rattle.value.specs.Range.{in_range}
use Rattle.csv_text.specs.Text.{text_of}
use Rattle.csv_reader.specs.Reader.{table, fails_at, read_text}

-- a table of values: 1 to 8 columns, rows of its width, values in the value range
pub record IsTable (columns : ℕ) (rows : List (List ℤ)) : Type 0 where
  pub some : 1 ≤ columns
  pub most : columns ≤ 8
  pub wide : Each (λ row. length row ≡ columns) rows
  pub values : Each (λ row. Each (λ v. in_range v ≡ true) row) rows

-- "reading it by the same grammar yields the rows in order"
abbrev pub TextReadsBack : Type 0
TextReadsBack = (fewest columns : ℕ) (rows : List (List ℤ)) → fewest ≤ columns → IsTable columns rows → read_text fewest (text_of columns rows) ≡ table columns rows

-- exactly one text for each table
abbrev pub OneText : Type 0
OneText =
    (fewest columns : ℕ) (rows : List (List ℤ)) (bytes : List ℕ) → read_text fewest bytes ≡ table columns rows
    → (bytes ≡ text_of columns rows) × (fewest ≤ columns) × IsTable columns rows

-- the longest text of at most 256 rows has 35,097 bytes
abbrev pub LongestText : Type 0
LongestText =
    ((columns : ℕ) (rows : List (List ℤ)) → IsTable columns rows → length rows ≤ 256 → length (text_of columns rows) ≤ 35097)
    × ((rows : List (List ℤ)) × IsTable 8 rows × (length rows ≡ 256) × (length (text_of 8 rows) ≡ 35097))

-- the text of a table of at least so many columns
pub record IsText (fewest : ℕ) (bytes : List ℕ) : Type 0 where
  pub columns : ℕ
  pub rows : List (List ℤ)
  pub enough : fewest ≤ columns
  pub is_table : IsTable columns rows
  pub same : bytes ≡ text_of columns rows

-- such a text begins with these bytes
abbrev pub Begins : ℕ → List ℕ → Type 0
Begins fewest bytes = (rest : List ℕ) × IsText fewest (bytes ++ rest)

-- "the first byte where the export can no longer be such a text, or its length if it is cut short"
pub record BreaksAt (fewest place : ℕ) (bytes : List ℕ) : Type 0 where
  -- a byte's place, or the length
  pub inside : place ≤ length bytes
  -- the bytes before the place begin a text
  pub before : fewest ≤ 8 → Begins fewest (take place bytes)
  -- with the byte at the place they begin none
  pub there : place < length bytes → Begins fewest (take (suc place) bytes) → ⊥
  -- the bytes as they are, cut short or not, are none
  pub none : IsText fewest bytes → ⊥
  -- no text has more than 8 columns: of more, no bytes begin one
  pub wider : 8 < fewest → (place ≡ 0) × (Begins fewest [] → ⊥)

-- the place of a failure is where the bytes break
abbrev pub FailsFirst : Type 0
FailsFirst = (fewest place : ℕ) (bytes : List ℕ) → read_text fewest bytes ≡ fails_at place → BreaksAt fewest place bytes
