-- "7. GROUP, a = key mask (may be 0) .. Groups in order of first appearance: keys, then the aggregate, whose label is the composition of
-- each cell's label discharged at level A. No rows give no groups." The paper's AGGREGATE and FAGG.
use Rattle.std.specs.Prelude.{ℕ, zero, suc, ◌+◌, Bool, true, false, cond, not, ◌&&◌, ◌||◌, List, [], ◌∷◌, ◌++◌, map, eqb, ℤ, pos, length, get_or}
use Rattle.label_composition.specs.Composition.{composed}
use Rattle.label_discharge.specs.Discharge.{forbids_a, after_a}
use Rattle.plan.specs.Masks.{in_mask}
use Rattle.plan.specs.Filter.{passing}
use Rattle.plan.specs.Keep.{kept_count, kept_cells}
use Rattle.plan.specs.Numbers.{aggregate_code}
use Rattle.plan.specs.Table.{Cell, Row, Table, cell_at}
use Rattle.plan.specs.Verdict.{Verdict, or_else, refuse_if, first_row, not_clear}
use Rattle.plan.specs.declared.Aggregate.{Aggregate}
use Rattle.plan.specs.declared.Aggregate.TheVariants.{Count, Sum, Min, Max, Avg}
use Rattle.aggregate.specs.Aggregate.{smaller, larger, exact_sum, all_in_range}
use Rattle.rounding.specs.Rounding.{average}
use Rattle.comparison.specs.Comparison.{same}
use Rattle.value.specs.Range.{OVER, settled}

-- "31: .. GROUP key is not clear." "32: .. In GROUP, after all keys."
unfoldable pub check_group : ℕ → ℕ → List (List ℕ) → Verdict
check_group keys column labels =
    or_else (not_clear (in_mask keys) 31 0 labels) (first_row (λ row cells. refuse_if (forbids_a (get_or cells column 0)) 32 row column) 0 labels)

-- the rows have the same keys; "OVER group keys are equal"
abbrev pub same_keys : ℕ → ℕ → Row → Row → Bool
same_keys keys zero a b = true
same_keys keys (suc column) a b = same_keys keys column a b && (not (in_mask keys column) || same (cell_at column a).value (cell_at column b).value)

abbrev pub any_same : ℕ → ℕ → Row → List Row → Bool
any_same keys columns row [] = false
any_same keys columns row (other ∷ rest) = same_keys keys columns other row || any_same keys columns row rest

-- The groups of the rows that are left: a group stands where its first row does, and has that row and each later one with its keys.
abbrev pub groups_after : ℕ → ℕ → List Row → List Row → List (List Row)
groups_after keys columns earlier [] = []
groups_after keys columns earlier (row ∷ rest) =
    cond (any_same keys columns row earlier) [] ((row ∷ passing (same_keys keys columns row) rest) ∷ [])
    ++ groups_after keys columns (earlier ++ (row ∷ [])) rest

-- how many different marks there are: a mark counts where it stands first, and `seen` are those before it
abbrev pub any_mark : ℕ → List ℕ → Bool
any_mark mark [] = false
any_mark mark (other ∷ rest) = eqb other mark || any_mark mark rest

abbrev pub distinct_after : List ℕ → List ℕ → ℕ
distinct_after seen [] = 0
distinct_after seen (mark ∷ rest) = cond (any_mark mark seen) 0 1 + distinct_after (mark ∷ seen) rest

abbrev pub distinct : List ℕ → ℕ
distinct marks = distinct_after [] marks

-- what a label's group minimum is held against, #103: "The group minimum shall count distinct sheets", those of all rows of the group
unfoldable pub group_size : List Row → ℕ
group_size group = distinct (map (λ row. row.mark) group)

-- a value and the others, two at a time
abbrev pub folded_from : (ℤ → ℤ → ℤ) → ℤ → List ℤ → ℤ
folded_from two value [] = value
folded_from two value (next ∷ rest) = folded_from two (two value next) rest

abbrev pub folded : (ℤ → ℤ → ℤ) → List ℤ → ℤ
folded two [] = OVER
folded two (value ∷ rest) = folded_from two value rest

-- "any result with an OVER operand, count excepted"
abbrev pub aggregate_value : Aggregate → List ℤ → ℤ
aggregate_value Count values = pos (length values)
aggregate_value Sum values = cond (all_in_range values) (settled (exact_sum values)) OVER
aggregate_value Min values = folded smaller values
aggregate_value Max values = folded larger values
aggregate_value Avg values = cond (all_in_range values) (average (exact_sum values) (length values)) OVER

-- the composition, in row order, of labels discharged at level A over so many sheets
abbrev pub composed_after : ℕ → ℕ → ℕ → List ℕ → ℕ
composed_after code sheets label [] = label
composed_after code sheets label (next ∷ rest) = composed_after code sheets (composed label (after_a next code sheets)) rest

abbrev pub aggregate_cell : Aggregate → List Cell → ℕ → Cell
aggregate_cell aggregate cells sheets = record {
  value = aggregate_value aggregate (map (λ cell. cell.value) cells);
  label = composed_after (aggregate_code aggregate) sheets 0 (map (λ cell. cell.label) cells);
}

-- a group's keys, those of its first row, and its aggregate; #103: "a group row takes its first row's mark"
abbrev pub group_row : ℕ → ℕ → Aggregate → ℕ → List Row → Row
group_row keys columns aggregate column [] = record { cells = []; mark = 0 }
group_row keys columns aggregate column (first ∷ rest) = record {
  cells = kept_cells keys columns first ++ (aggregate_cell aggregate (map (cell_at column) (first ∷ rest)) (group_size (first ∷ rest)) ∷ []);
  mark = first.mark;
}

unfoldable pub grouped : ℕ → Aggregate → ℕ → Table → Table
grouped keys aggregate column table = record {
  columns = kept_count keys table.columns + 1;
  rows = map (group_row keys table.columns aggregate column) (groups_after keys table.columns [] table.rows);
}
