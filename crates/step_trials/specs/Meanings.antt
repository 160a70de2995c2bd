-- What stands between the tables of a case.
use Rattle.std.specs.Prelude.{ℕ, cond, List, Option, Some, None, option_map, ◌==◌}
use Rattle.step_trials.specs.Words.{count_of, part_of, number_of, short_of, bits_of}
use Rattle.step_trials.specs.declared.tables.Word.{Word}
use Rattle.step_trials.specs.declared.tables.Word.TheVariants.{Columns, Cell}

abbrev pub cell_in : Option ℕ → Option ℕ → Option Word
cell_in None label = None
cell_in (Some bits) None = None
cell_in (Some bits) (Some label) = Some (Cell bits label)

-- what a word between tables is: the columns of a table, a cell, neither of them though it looks so, or what it is by its name
unfoldable pub word_of : List ℕ → Option Word → Option Word
word_of word named =
    cond (count_of 124 word == 1) (option_map Columns (number_of 10 (part_of 124 0 word)))
    (cond (count_of 58 word == 1) (cell_in (bits_of (part_of 58 0 word)) (short_of 16 (part_of 58 1 word))) named)
