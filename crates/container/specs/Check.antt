-- "Refused because of the input (place: a byte offset)": 11; 12; for each table 13, then for each cell 14, 15, then 20; then 16; then for each step
-- 17, 18, 19.
use Rattle.std.specs.Prelude.{ℕ, zero, suc, ◌-◌, List, [], ◌∷◌}
use Rattle.input.specs.Verdict.{and_then}
use Rattle.layout.specs.Layout.{part_count, offset_of, part_of}
use Rattle.directory.specs.Directory.{check_directory}
use Rattle.label_words.specs.WellFormed.{smallest_minimum}
use Rattle.layout_check.specs.Checks.{check_container}
use Rattle.plan_check.specs.PlanCheck.{check_plan}
use Rattle.table_check.specs.Checks.{check_table}
use Rattle.table_part.specs.TablePart.{columns_of}
pub use Rattle.input.specs.Answers.{input_refusal_says, input_says}
pub use Rattle.input.specs.Verdict.{InputVerdict, accepted, rejected}

abbrev pub check_tables : ℕ → List ℕ → ℕ → ℕ → InputVerdict
check_tables least bytes part zero = accepted
check_tables least bytes part (suc more) = and_then (check_table least (part_of bytes part) (offset_of bytes part)) (check_tables least bytes (suc part) more)

-- the columns of the tables, from one part on
abbrev pub table_widths : List ℕ → ℕ → ℕ → List ℕ
table_widths bytes part zero = []
table_widths bytes part (suc more) = columns_of (part_of bytes part) ∷ table_widths bytes (suc part) more

abbrev pub check_plan_part : List ℕ → InputVerdict
check_plan_part bytes = check_plan (part_of bytes 0) (offset_of bytes 0) (table_widths bytes 1 (part_count bytes - 1))

-- the input checks, where no group minimum may be below `least`
unfoldable pub check_input_from : ℕ → List ℕ → InputVerdict
check_input_from least bytes =
    and_then (check_container bytes)
    (and_then (check_directory 12 (part_count bytes) bytes)
    (and_then (check_tables least bytes 1 (part_count bytes - 1)) (check_plan_part bytes)))

unfoldable pub check_input : List ℕ → InputVerdict
check_input bytes = check_input_from smallest_minimum bytes
