-- #107: "a conversion program that raises each 1 to 2, leaves all other bytes the same".
use Rattle.std.specs.Prelude.{ℕ, zero, suc, ◌+◌, ◌-◌, Bool, cond, not, List, [], ◌∷◌, ◌++◌, eqb, set}
use Rattle.container.specs.Check.{InputVerdict, check_input_from}
use Rattle.label_words.specs.Word.{minimum_of}
use Rattle.input.specs.Verdict.{and_then, reject_if}
use Rattle.layout.specs.Layout.{part_count, rule_year, offset_of, part_of}
use Rattle.table_part.specs.TablePart.{cell_count, label_place, label_of}

-- "It converts only containers that the old check accepts": the input checks with 1 as the smallest minimum. They are older than #108, and a high byte
-- of the part count other than 0 gives 11.
unfoldable pub check_before : List ℕ → InputVerdict
check_before bytes = and_then (reject_if (not (eqb (rule_year bytes) 0)) 11 0) (check_input_from 1 bytes)

-- whether a label's minimum is a 1
abbrev pub has_one : ℕ → Bool
has_one label = eqb (minimum_of label) 1

-- the offset of a cell's label, if that is to be raised; the table part begins at `at`
abbrev pub one_at : List ℕ → ℕ → ℕ → List ℕ
one_at part at cell = cond (has_one (label_of part cell)) ((at + label_place cell) ∷ []) []

-- the same of so many cells from one on
abbrev pub ones_among : List ℕ → ℕ → ℕ → ℕ → List ℕ
ones_among part at cell zero = []
ones_among part at cell (suc more) = one_at part at cell ++ ones_among part at (suc cell) more

-- the same of the tables, from one part on
abbrev pub ones_from : List ℕ → ℕ → ℕ → List ℕ
ones_from bytes part zero = []
ones_from bytes part (suc more) =
    ones_among (part_of bytes part) (offset_of bytes part) 0 (cell_count (part_of bytes part)) ++ ones_from bytes (suc part) more

-- "the offset of each label changed"
unfoldable pub changed_labels : List ℕ → List ℕ
changed_labels bytes = ones_from bytes 1 (part_count bytes - 1)

-- a 2 at each of these offsets. The minimum is the low ten bits of a label, so that a minimum of 1 is raised by the label's first byte.
abbrev pub raised_at : List ℕ → List ℕ → List ℕ
raised_at bytes [] = bytes
raised_at bytes (offset ∷ rest) = raised_at (set bytes offset 2) rest

unfoldable pub converted : List ℕ → List ℕ
converted bytes = raised_at bytes (changed_labels bytes)
