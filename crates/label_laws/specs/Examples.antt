-- "Proved examples": the rows on labels, 1 to 7. The crate `plan` puts the rows on numbers after them and has the table of all ten.
use Rattle.std.specs.Prelude.{ℕ, Bool, true, false, not, ◌&&◌, List, [], ◌∷◌, eqb}
use Rattle.label_words.specs.Answers.{LabelVerdict, label, forbidden, refused}
use Rattle.label_composition.specs.Composition.{composed}
use Rattle.label_discharge.specs.Discharge.{transformed, aggregated}
use Rattle.label_words.specs.WellFormed.{well_formed}

-- a row: the example's number, and whether the definitions give what the document says
pub record Example : Type 0 where
  pub number : ℕ
  pub holds : Bool

abbrev pub row : ℕ → Bool → Example
row number holds = record { number = number; holds = holds }

-- whether a discharge leaves this label
abbrev pub leaves : LabelVerdict → ℕ → Bool
leaves (label left) word = eqb left word
leaves forbidden word = false
leaves (refused number place) word = false

abbrev pub forbids : LabelVerdict → Bool
forbids (label left) = false
forbids forbidden = true
forbids (refused number place) = false

-- every row holds
abbrev pub all : List Example → Bool
all [] = true
all (r ∷ rows) = r.holds && all rows

-- #103: "Example 5 now speaks of 20 and 19 sheets." #107: "20000001 in example 7 moves to the ill-formed ones."
unfoldable pub label_rows : List Example
label_rows =
    row 1 (eqb (composed 0x20030014 0x2002001E) 0x2002001E)
    ∷ row 2 (eqb (composed 0x44000C00 0x20030014) 0x64030C14)
    ∷ row 3 (eqb (composed 0x45000C00 0x41000000) 0x41000000)
    ∷ row 4 (leaves (transformed 0x64030C14 2 3) 0x20030014)
    ∷ row 4 (leaves (transformed 0x64030C14 2 2) 0x64030C14)
    ∷ row 5 (leaves (aggregated 0x20030014 1 20) 0)
    ∷ row 5 (leaves (aggregated 0x20030014 1 19) 0x20030014)
    ∷ row 6 (forbids (aggregated 0x64030C14 1 20))
    ∷ row 7 (not (well_formed 0x00000001))
    ∷ row 7 (not (well_formed 0x20030000))
    ∷ row 7 (not (well_formed 0x44000000))
    ∷ row 7 (not (well_formed 0x20000001))
    ∷ row 7 (well_formed 0x80000000)
    ∷ []
