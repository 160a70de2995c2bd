-- "Refused because of the input (place: a byte offset)": 11. `Directory` of the crate `directory` has 12.
use Rattle.std.specs.Prelude.{ℕ, not, ◌&&◌, ◌||◌, List, leb, ltb, length}
use Rattle.input.specs.Verdict.{InputVerdict, reject_if}
use Rattle.layout.specs.Layout.{part_count, rule_year, pair_at}

-- "11: container too long, too short for its directory, or a wrong part count. Place 0." #108: the rule year is "0 as now, 1 for the floor"; "Other high
-- bytes give 11."
unfoldable pub check_container : List ℕ → InputVerdict
check_container bytes =
    reject_if
    (ltb 65536 (length bytes) || ltb (length bytes) 2 || ltb 1 (rule_year bytes) || not (leb 2 (part_count bytes) && leb (part_count bytes) 9)
    || ltb (length bytes) (pair_at (part_count bytes)))
    11 0
