-- The laws of APPLY, for the evaluator to cite. Assumes nothing.
use Prim.Native.Nat.{ℕ}
use mathlib.Core.Path.{◌≡◌}
use mathlib.Core.Bool.{true}
use Rattle.apply.specs.promises.Fits.{apply_fits}
use Rattle.cells.specs.promises.Labelled.{Formed, LabelledRow, Labelled}
use Rattle.cells.specs.promises.Work.{Memory}
use Rattle.operations.specs.promises.Operations.{operation_fits}
use Rattle.live_tables.specs.declared.Stack.{Stack}
use Rattle.memory.specs.promises.Stack.{stack_in}
use Rattle.memory.specs.promises.Steps.{fits_in}
use Rattle.plan.specs.Apply.{applied_row, applied}
use Rattle.plan.specs.Numbers.{transform_code, digits_taken}
use Rattle.plan.specs.Supply.{Supply}
use Rattle.plan.specs.Table.{Row, Table, cell_at, Each}
use Rattle.plan.specs.declared.Step.TheVariants.{Apply}
use Rattle.plan.specs.declared.Transform.{Transform}
use Rattle.cells.proofs.LabelledTables.{cell-formed}
use Rattle.label_laws.proofs.Laws.{after-T-well-formed}
use Rattle.memory.proofs.TopLabels.{top-formed}
use Rattle.plan.proofs.SenseShape.{each_append, each_map}

-- an operation that exists, on live tables whose labels are well-formed, asks no more than every step
pub apply-fits : (column : ℕ) (transform : Transform) (supply : Supply) (m : Memory) (stack : Stack) → fits_in (Apply column transform) supply m stack ≡ true → operation_fits transform ≡ true
    → Each Labelled (stack_in m stack) → apply_fits column transform supply m stack ≡ true
apply-fits column transform supply m stack t o e = rw (t, o, top-formed column m stack e)

-- ---- the labels that APPLY makes

applied-row : (column : ℕ) (transform : Transform) (row : Row) → LabelledRow row → LabelledRow (applied_row column transform row)
applied-row column transform row e =
    each_append Formed row.cells _ e (after-T-well-formed (cell_at column row).label (transform_code transform) (digits_taken transform) (cell-formed column row e), tt)

-- the labels of the table made are well-formed if those of the table are
pub applied-labelled : (column : ℕ) (transform : Transform) (table : Table) → Labelled table → Labelled (applied column transform table)
unfolding applied
applied-labelled column transform table = each_map LabelledRow LabelledRow (applied_row column transform) (applied-row column transform) table.rows
