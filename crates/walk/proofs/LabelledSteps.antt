-- What a step makes has labels that are well-formed where those it reads are. Assumes nothing.
use Prim.Native.Nat.{ℕ, suc}
use mathlib.Core.Path.{◌≡◌}
use mathlib.Core.List.{List, [], ◌∷◌}
use lib.ListN.{take}
use Rattle.input.specs.Verdict.{accepted}
use Rattle.cells.specs.promises.Labelled.{Formed, LabelledRow, Labelled}
use Rattle.plan.specs.Filter.{passes, filtered}
use Rattle.plan.specs.Join.{matches, joined_row, joined_to, joined_rows, joined}
use Rattle.plan.specs.Keep.{kept_row, kept}
use Rattle.plan.specs.Scan.{scanned}
use Rattle.plan.specs.Steps.{make}
use Rattle.plan.specs.Supply.{Supply}
use Rattle.plan.specs.Sheets.{InputTable, marks_of, with_marks, all_with_marks}
use Rattle.plan.specs.Table.{Row, Table, no_table, top, second, Each}
use Rattle.plan.specs.Union.{united}
use Rattle.plan.specs.declared.Step.{Step}
use Rattle.plan.specs.declared.Step.TheVariants.{Scan, Union, Join, Filter, Keep, Apply, Group, Noise}
use Rattle.apply.proofs.Laws.{applied-labelled}
use Rattle.accepted.proofs.AcceptedTables.{rows-each}
use Rattle.overlaid.proofs.Overlaid.{overlays-formed}
use Rattle.plan.proofs.SenseEach.{each_take, each-drop}
use Rattle.group.proofs.Laws.{grouped-labelled}
use Rattle.noise.proofs.Laws.{noisy-labelled}
use Rattle.cells.proofs.LabelledTables.{top-labelled, kept-formed, passing-formed}
use Rattle.plan.proofs.SenseShape.{each_append, each-get, each-cond, each_map}
use Rattle.demands.specs.Given.{Given, year_given, check_given, tables_given, prepared}

-- ---- labels

pub second-labelled : (stack : List Table) → Each Labelled stack → Labelled (second stack)
second-labelled stack = each-get Labelled stack 1 no_table tt

-- a left row, and a right one without its key
joined-row : (b : ℕ) (left right : Row) → LabelledRow left → LabelledRow right → LabelledRow (joined_row b left right)
joined-row b left right l r =
    each_append Formed left.cells _ l
    (each_append Formed (take b right.cells) _ (each_take Formed b right.cells r) (each-drop Formed (suc b) right.cells r))

joined-to : (a b : ℕ) (left : Row) (rights : List Row) → LabelledRow left → Each LabelledRow rights → Each LabelledRow (joined_to a b left rights)
joined-to a b left [] l r = tt
joined-to a b left (right ∷ rest) l r =
    let more = joined-to a b left rest l r.1 in
    each-cond LabelledRow (matches a b left right) (joined_row b left right ∷ joined_to a b left rest) (joined_to a b left rest)
    (joined-row b left right l r.0, more) more

joined-rows : (a b : ℕ) (lefts rights : List Row) → Each LabelledRow lefts → Each LabelledRow rights → Each LabelledRow (joined_rows a b lefts rights)
joined-rows a b [] rights l r = tt
joined-rows a b (left ∷ rest) rights l r =
    each_append LabelledRow (joined_to a b left rights) (joined_rows a b rest rights) (joined-to a b left rights l.0 r) (joined-rows a b rest rights l.1 r)

pub make-labelled : (step : Step) (supply : Supply) (stack : List Table) → Each Labelled supply.tables → Each Labelled stack → Labelled (make step supply stack)
unfolding make scanned united joined filtered kept
make-labelled (Scan table) supply stack t s = each-get Labelled supply.tables table no_table tt t
make-labelled Union supply stack t s =
    each_append LabelledRow (second stack).rows (top stack).rows (second-labelled stack s) (top-labelled stack s)
make-labelled (Join left right) supply stack t s =
    joined-rows left right (second stack).rows (top stack).rows (second-labelled stack s) (top-labelled stack s)
make-labelled (Filter column comparison operand) supply stack t s =
    passing-formed (passes column comparison operand) (top stack).rows (top-labelled stack s)
make-labelled (Keep mask) supply stack t s =
    each_map LabelledRow LabelledRow (kept_row mask (top stack).columns) (kept-formed mask (top stack).columns) (top stack).rows (top-labelled stack s)
make-labelled (Apply column transform) supply stack t s = applied-labelled column transform (top stack) (top-labelled stack s)
make-labelled (Group keys aggregate column) supply stack t s = grouped-labelled keys aggregate column (top stack) (top-labelled stack s)
make-labelled (Noise column) supply stack t s = noisy-labelled column supply.draws (top stack) (top-labelled stack s)

-- an accepted input's tables
formed-labelled : (table : ℕ) (inputs : List InputTable) → Each (λ input. Each Formed input.cells) inputs → Each Labelled (all_with_marks table inputs)
unfolding with_marks
formed-labelled table [] f = tt
formed-labelled table (input ∷ rest) f =
    (rows-each Formed input.columns (marks_of table input) input.cells f.0, formed-labelled (suc table) rest f.1)

pub tables-labelled : (given : Given) → check_given given ≡ accepted → Each Labelled (prepared (year_given given) given)
tables-labelled given e = formed-labelled 0 (tables_given (year_given given) given) (overlays-formed (year_given given) given.container given.overlays e)
