-- The laws of GROUP, for the evaluator to cite. Assumes nothing.
use Prim.Native.Nat.{ℕ}
use mathlib.Core.Path.{◌≡◌}
use mathlib.Core.Bool.{true, cond}
use mathlib.Core.List.{List, [], ◌∷◌, ◌++◌, map}
use Rattle.cells.specs.promises.Labelled.{Formed, LabelledRow, Labelled}
use Rattle.cells.specs.promises.Work.{Memory}
use Rattle.group.specs.promises.Fits.{group_fits}
use Rattle.label_words.specs.WellFormed.{well_formed}
use Rattle.live_tables.specs.declared.Stack.{Stack}
use Rattle.memory.specs.promises.Stack.{stack_in}
use Rattle.memory.specs.promises.Steps.{fits_in}
use Rattle.plan.specs.Filter.{passing}
use Rattle.plan.specs.Group.{same_keys, any_same, groups_after, group_size, composed_after, group_row, grouped}
use Rattle.plan.specs.Keep.{kept_cells}
use Rattle.plan.specs.Numbers.{aggregate_code}
use Rattle.plan.specs.Supply.{Supply}
use Rattle.plan.specs.Table.{Row, Table, cell_at, Each}
use Rattle.plan.specs.declared.Aggregate.{Aggregate}
use Rattle.plan.specs.declared.Step.TheVariants.{Group}
use Rattle.cells.proofs.LabelledTables.{cell-formed, kept-formed, passing-formed}
use Rattle.label_composition.specs.Composition.{composed}
use Rattle.label_discharge.specs.Discharge.{after_a}
use Rattle.group.proofs.Labels.{composed-formed}
use Rattle.label_laws.proofs.Laws.{zero-well-formed}
use Rattle.memory.proofs.TopLabels.{top-formed}
use Rattle.plan.proofs.SenseShape.{each_append, each-cond, each_map}

-- live tables whose labels are well-formed ask no more than every step
pub group-fits : (keys : ℕ) (aggregate : Aggregate) (column : ℕ) (supply : Supply) (m : Memory) (stack : Stack) → fits_in (Group keys aggregate column) supply m stack ≡ true
    → Each Labelled (stack_in m stack) → group_fits keys aggregate column supply m stack ≡ true
group-fits keys aggregate column supply m stack t e = rw (t, top-formed column m stack e)

-- ---- the labels that GROUP makes

composition-formed : (code rows label column : ℕ) (group : List Row) → well_formed label ≡ true → Each LabelledRow group
    → well_formed (composed_after code rows label (map (λ cell. cell.label) (map (cell_at column) group))) ≡ true
composition-formed code rows label column [] w e = w
composition-formed code rows label column (row ∷ group) w e =
    composition-formed code rows (composed label (after_a (cell_at column row).label code rows)) column group (composed-formed label (cell_at column row).label code rows w (cell-formed column row e.0)) e.1

row-formed : (keys columns : ℕ) (aggregate : Aggregate) (column : ℕ) (group : List Row) → Each LabelledRow group → LabelledRow (group_row keys columns aggregate column group)
row-formed keys columns aggregate column [] e = tt
row-formed keys columns aggregate column (first ∷ rest) e =
    each_append Formed (kept_cells keys columns first) _ (kept-formed keys columns first e.0)
    (composition-formed (aggregate_code aggregate) (group_size (first ∷ rest)) 0 column (first ∷ rest) zero-well-formed e, tt)

groups-formed : (keys columns : ℕ) (earlier rows : List Row) → Each LabelledRow rows → Each (Each LabelledRow) (groups_after keys columns earlier rows)
groups-formed keys columns earlier [] e = tt
groups-formed keys columns earlier (row ∷ rows) e =
    each_append (Each LabelledRow) (cond (any_same keys columns row earlier) [] ((row ∷ passing (same_keys keys columns row) rows) ∷ [])) _
    (each-cond (Each LabelledRow) (any_same keys columns row earlier) [] _ tt ((e.0, passing-formed (same_keys keys columns row) rows e.1), tt))
    (groups-formed keys columns (earlier ++ (row ∷ [])) rows e.1)

-- the labels of the table made are well-formed if those of the table are
pub grouped-labelled : (keys : ℕ) (aggregate : Aggregate) (column : ℕ) (table : Table) → Labelled table → Labelled (grouped keys aggregate column table)
unfolding grouped
grouped-labelled keys aggregate column table e =
    each_map (Each LabelledRow) LabelledRow (group_row keys table.columns aggregate column) (row-formed keys table.columns aggregate column) (groups_after keys table.columns [] table.rows)
    (groups-formed keys table.columns [] table.rows e)
