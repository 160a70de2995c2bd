-- "6. APPLY, a = first column .. Appends a column; the first column stays. The new label is the first operand's, discharged at level T."
-- The paper's FUNARY and FBINARY; they change a label by the cell's identity, here the new cell is another one.
use Rattle.std.specs.Prelude.{ℕ, ◌+◌, not, List, [], ◌∷◌, ◌++◌, map, ℤ, get_or}
use Rattle.label_discharge.specs.Discharge.{forbids_t, after_t}
use Rattle.plan.specs.Numbers.{transform_code, digits_taken}
use Rattle.plan.specs.Operands.{operand_value}
use Rattle.plan.specs.Table.{Cell, Row, Table, clear, cell_at}
use Rattle.plan.specs.Verdict.{Verdict, fine, or_else, refuse_if, first_row}
use Rattle.plan.specs.declared.Operand.{Operand}
use Rattle.plan.specs.declared.Operand.TheVariants.{Constant, Column}
use Rattle.plan.specs.declared.Transform.{Transform}
use Rattle.plan.specs.declared.Transform.TheVariants.{Add, Sub, Cut, Band}
use Rattle.arithmetic.specs.Arithmetic.{plus, minus, cut, band}

-- "33: APPLY's second operand is not clear"
abbrev pub operand_clear : Operand → ℕ → List ℕ → Verdict
operand_clear (Constant value) row labels = fine
operand_clear (Column column) row labels = refuse_if (not (clear (get_or labels column 0))) 33 row column

abbrev pub second_clear : Transform → ℕ → List ℕ → Verdict
second_clear (Add operand) row labels = operand_clear operand row labels
second_clear (Sub operand) row labels = operand_clear operand row labels
second_clear (Cut digits) row labels = fine
second_clear (Band width) row labels = fine

-- "32: APPLY .. forbidden by the first operand's label." "33: .. in each row after 32."
abbrev pub apply_row : ℕ → Transform → ℕ → List ℕ → Verdict
apply_row column transform row labels =
    or_else (refuse_if (forbids_t (get_or labels column 0)) 32 row column) (second_clear transform row labels)

unfoldable pub check_apply : ℕ → Transform → List (List ℕ) → Verdict
check_apply column transform = first_row (apply_row column transform) 0

-- a value after the operation
abbrev pub transform_value : Transform → ℤ → Row → ℤ
transform_value (Add operand) value row = plus value (operand_value operand row)
transform_value (Sub operand) value row = minus value (operand_value operand row)
transform_value (Cut digits) value row = cut digits value
transform_value (Band width) value row = band width value

abbrev pub new_cell : Transform → Cell → Row → Cell
new_cell transform first row = record {
  value = transform_value transform first.value row;
  label = after_t first.label (transform_code transform) (digits_taken transform);
}

abbrev pub applied_row : ℕ → Transform → Row → Row
applied_row column transform row = record { cells = row.cells ++ (new_cell transform (cell_at column row) row ∷ []); mark = row.mark }

unfoldable pub applied : ℕ → Transform → Table → Table
applied column transform table = record { columns = table.columns + 1; rows = map (applied_row column transform) table.rows }
