-- The row that APPLY makes of a row, and the rows that it makes of rows. Assumes nothing.
use Prim.Native.Nat.{ℕ, zero, suc, ◌+◌, ◌<◌}
use mathlib.Core.Path.{◌≡◌, refl, sym, ap, ap₂, ◌∙◌}
use mathlib.Core.Bool.{true}
use mathlib.Core.List.{List, [], ◌∷◌, map}
use native.Mathlib.Nat.{le_of_suc-le-suc, not-suc-le-zero}
use native.Mathlib.Omega.{arith}
use lib.IntN.{ℤ, pos}
use lib.ListN.{length, get_or}
use Rattle.apply.specs.promises.Making.{value_at, label_at}
use Rattle.extension.specs.promises.Rows.{values_of, made_cell, extended_from}
use Rattle.label_discharge.specs.Discharge.{forbids_t, after_t, transformed, transform_answer}
use Rattle.label_words.specs.WellFormed.{well_formed}
use Rattle.operations.specs.promises.Operations.{operation_fits}
use Rattle.plan.specs.Apply.{transform_value, new_cell, applied_row}
use Rattle.plan.specs.Operands.{operand_value}
use Rattle.plan.specs.Numbers.{transform_code, digits_taken}
use Rattle.plan.specs.Table.{Cell, Row, blank, cell_at}
use Rattle.plan.specs.Widths.{transform_column_exists}
use Rattle.plan.specs.declared.Operand.{Operand}
use Rattle.plan.specs.declared.Operand.TheVariants.{Constant, Column}
use Rattle.plan.specs.declared.Transform.{Transform}
use Rattle.plan.specs.declared.Transform.TheVariants.{Add, Sub, Cut, Band}
use Rattle.arithmetic.specs.Arithmetic.{plus, minus}
use Rattle.cells.proofs.CellLaws.{cell}
use Rattle.cells.proofs.Rows.{bare}
use Rattle.extension.proofs.LabelledRows.{Formed}
use Rattle.extension.proofs.Labels.{left-after}
use Rattle.label_laws.proofs.Laws.{forbids-T, after-T}
use Rattle.operand.proofs.Laws.{operand-of}

-- the cell that a row gets, whatever its number
abbrev pub new_of : ℕ → Transform → ℕ → Row → Cell
new_of column transform i row = new_cell transform (cell_at column row) row

-- which does not depend on the row's mark
operand-bare : (operand : Operand) (row : Row) → operand_value operand row ≡ operand_value operand (bare row)
operand-bare (Constant value) row = refl
operand-bare (Column column) row = refl

new-value : (transform : Transform) (value : ℤ) (row : Row) → transform_value transform value row ≡ transform_value transform value (bare row)
new-value (Add operand) value row = ap (plus value) (operand-bare operand row)
new-value (Sub operand) value row = ap (minus value) (operand-bare operand row)
new-value (Cut digits) value row = refl
new-value (Band width) value row = refl

pub new-bare : (column : ℕ) (transform : Transform) (i : ℕ) (row : Row) → new_of column transform i row ≡ new_of column transform i (bare row)
new-bare column transform i row =
    ap (λ (value : ℤ). cell value (after_t (cell_at column row).label (transform_code transform) (digits_taken transform))) (new-value transform (cell_at column row).value row)

pub applied-is : (column : ℕ) (transform : Transform) (i : ℕ) (rows : List Row) → map (applied_row column transform) rows ≡ extended_from (new_of column transform) i rows
applied-is column transform i [] = refl
applied-is column transform i (row ∷ rest) = ap (λ (l : List Row). applied_row column transform row ∷ l) (applied-is column transform (suc i) rest)

-- the value of a cell, among the values of its row
value-in : (cells : List Cell) (i : ℕ) → i < length cells → (get_or cells i blank).value ≡ get_or (map (λ cell. cell.value) cells) i (pos 0)
value-in [] i h = absurd (not-suc-le-zero h)
value-in (first ∷ rest) zero h = refl
value-in (first ∷ rest) (suc i) h = value-in rest i (le_of_suc-le-suc h)

-- what the code makes of a row whose label is well-formed is the cell that it gets
module _ (columns column : ℕ) (transform : Transform) (o : operation_fits transform ≡ true) (t : transform_column_exists transform columns ≡ true) where
  value-made : (i : ℕ) (row : Row) → Formed columns column row → value_at (cell_at column row).value (values_of row) transform ≡ transform_value transform (cell_at column row).value row
  value-made i row f = go transform t
    where
      read : (k : ℕ) → k < columns → (cell_at k row).value ≡ get_or (values_of row) (0 + k) (pos 0)
      read k h = let z : 0 + k ≡ k = omega arith in rw z (value-in row.cells k (omega (arith, f.wide)))

      go : (u : Transform) → transform_column_exists u columns ≡ true → value_at (cell_at column row).value (values_of row) u ≡ transform_value u (cell_at column row).value row
      go (Add operand) e = ap (plus (cell_at column row).value) (sym (operand-of row (values_of row) 0 columns read operand e))
      go (Sub operand) e = ap (minus (cell_at column row).value) (sym (operand-of row (values_of row) 0 columns read operand e))
      go (Cut digits) e = refl
      go (Band width) e = refl

  label-made : (word : ℕ) → well_formed word ≡ true → label_at word transform ≡ after_t word (transform_code transform) (digits_taken transform)
  unfolding transform_answer transformed
  label-made word wf =
      rw (wf, o) (left-after word (after_t word (transform_code transform) (digits_taken transform)) (forbids_t word)
      (λ h. after-T word (transform_code transform) (digits_taken transform) ∙ rw (sym (forbids-T word) ∙ h)))

  pub cell-made : (i : ℕ) (row : Row) → Formed columns column row
      → made_cell (λ number first row. value_at first row transform) (λ word. label_at word transform) column i row ≡ new_of column transform i row
  cell-made i row f = ap₂ cell (value-made i row f) (label-made (cell_at column row).label f.label)
