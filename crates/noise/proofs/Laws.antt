-- The laws of NOISE, for the evaluator to cite. Assumes nothing.
use Prim.Native.Nat.{ℕ}
use mathlib.Core.Path.{◌≡◌}
use mathlib.Core.Bool.{true}
use mathlib.Core.List.{List, [], ◌∷◌}
use lib.IntN.{ℤ}
use lib.ListN.{drop}
use Rattle.cells.specs.promises.Labelled.{Formed, LabelledRow, Labelled}
use Rattle.cells.specs.promises.Work.{Memory}
use Rattle.live_tables.specs.declared.Stack.{Stack}
use Rattle.memory.specs.promises.Stack.{stack_in}
use Rattle.memory.specs.promises.Steps.{fits_in}
use Rattle.noise.specs.promises.Fits.{noise_fits}
use Rattle.plan.specs.Noise.{noisy_row, noisy_rows, with_noise}
use Rattle.plan.specs.Supply.{Supply}
use Rattle.plan.specs.Table.{Row, Table, cell_at, Each}
use Rattle.plan.specs.declared.Step.TheVariants.{Noise}
use Rattle.cells.proofs.LabelledTables.{cell-formed}
use Rattle.label_laws.proofs.Laws.{after-N-well-formed}
use Rattle.memory.proofs.TopLabels.{top-formed}
use Rattle.plan.proofs.SenseShape.{each_append}

-- live tables whose labels are well-formed ask no more than every step
pub noise-fits : (column : ℕ) (supply : Supply) (m : Memory) (stack : Stack) → fits_in (Noise column) supply m stack ≡ true
    → Each Labelled (stack_in m stack) → noise_fits column supply m stack ≡ true
noise-fits column supply m stack t e = rw (t, top-formed column m stack e)

-- ---- the labels that NOISE makes

noisy-row : (column : ℕ) (row : Row) (draw : ℤ) → LabelledRow row → LabelledRow (noisy_row column row draw)
noisy-row column row draw e = each_append Formed row.cells _ e (after-N-well-formed (cell_at column row).label (cell-formed column row e), tt)

noisy-rows : (column : ℕ) (draws : List ℤ) (rows : List Row) → Each LabelledRow rows → Each LabelledRow (noisy_rows column draws rows)
noisy-rows column draws [] e = tt
noisy-rows column draws (row ∷ rest) e = (noisy-row column row _ e.0, noisy-rows column (drop 1 draws) rest e.1)

-- the labels of the table made are well-formed if those of the table are
pub noisy-labelled : (column : ℕ) (draws : List ℤ) (table : Table) → Labelled table → Labelled (with_noise column draws table)
unfolding with_noise
noisy-labelled column draws table = noisy-rows column draws table.rows
