-- APPLY of alike tables makes alike tables: a new cell that the plan does not lock comes from one that it does not lock. Assumes nothing.
use Prim.Native.Nat.{ℕ, ◌+◌}
use mathlib.Core.Path.{◌≡◌, refl, ap, ap₂}
use mathlib.Core.Bool.{true, not}
use mathlib.Core.List.{List}
use lib.IntN.{ℤ}
use lib.ListN.{get_or}
use borrow.Author.Tests.{eqb-true, not-false}
use Rattle.label_discharge.specs.Discharge.{allows_transform, forbids_t, after_t}
use Rattle.plan.specs.Apply.{operand_clear, second_clear, apply_row, check_apply, transform_value, applied_row, applied}
use Rattle.plan.specs.Locked.{applies_at, any_step}
use Rattle.plan.specs.Numbers.{transform_code, digits_taken}
use Rattle.plan.specs.Operands.{operand_value}
use Rattle.plan.specs.Secrecy.{none, more, AlikeRows, AlikeMarked}
use Rattle.plan.specs.Table.{Row, Table, clear, cell_at, labels_of, grid}
use Rattle.plan.specs.Verdict.{fine, refuse_if}
use Rattle.plan.specs.declared.Operand.{Operand}
use Rattle.plan.specs.declared.Operand.TheVariants.{Constant, Column}
use Rattle.plan.specs.declared.Step.{Step}
use Rattle.plan.specs.declared.Transform.{Transform}
use Rattle.plan.specs.declared.Transform.TheVariants.{Add, Sub, Cut, Band}
use Rattle.arithmetic.specs.Arithmetic.{plus, minus, cut, band}
use Rattle.plan.proofs.Alike.{or-fine, if-fine, Tested, tested, cells-alike, same-value}
use Rattle.plan.proofs.LockedLaws.{transform-locked}
use Rattle.plan.proofs.Pairs.{both-append, both-map}

module _ (plan : List Step) where
  same_operand : (operand : Operand) (row : ℕ) {a b : Row} → AlikeRows plan a b → operand_clear operand row (labels_of a) ≡ fine → operand_value operand a ≡ operand_value operand b
  same_operand (Constant value) row r e = refl
  same_operand (Column column) row {a} r e =
      same-value plan column r (eqb-true _ 0 (not-false _ (if-fine (not (clear (get_or (labels_of a) column 0))) 33 row column e)))

  same-result : (transform : Transform) (row : ℕ) {v w : ℤ} {a b : Row} → v ≡ w → AlikeRows plan a b → second_clear transform row (labels_of a) ≡ fine
      → transform_value transform v a ≡ transform_value transform w b
  same-result (Add operand) row e r s = ap₂ plus e (same_operand operand row r s)
  same-result (Sub operand) row e r s = ap₂ minus e (same_operand operand row r s)
  same-result (Cut digits) row e r s = ap (cut digits) e
  same-result (Band width) row e r s = ap (band width) e

  module _ (column : ℕ) (transform : Transform)
      (used : (label : ℕ) → allows_transform label (transform_code transform) (digits_taken transform) ≡ true → any_step (applies_at label) plan ≡ true) where
    applied-alike : (a b : Row) → Tested plan (apply_row column transform) a b → AlikeRows plan (applied_row column transform a) (applied_row column transform b)
    applied-alike a b t =
        let first = cells-alike plan column t.alike in
        let second = (or-fine (refuse_if (forbids_t (get_or (labels_of a) column 0)) 32 t.at column) (second_clear transform t.at (labels_of a)) t.nothing).1 in
        record {
          cells = both-append t.alike.cells (more record {
            labels = ap (λ (l : ℕ). after_t l (transform_code transform) (digits_taken transform)) first.labels;
            values = λ o. same-result transform t.at (first.values (transform-locked plan transform (cell_at column a).label (used (cell_at column a).label) o)) t.alike second;
          } none);
          mark = t.alike.mark;
        }

    pub apply-alike : {a b : Table} → AlikeMarked plan a b → check_apply column transform (grid a) ≡ fine → AlikeMarked plan (applied column transform a) (applied column transform b)
    unfolding check_apply applied
    apply-alike t e = record {
      columns = ap (λ (n : ℕ). n + 1) t.columns;
      rows = both-map (applied_row column transform) (applied_row column transform) applied-alike (tested plan (apply_row column transform) 0 t.rows e);
    }
