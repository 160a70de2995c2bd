-- What the labels of a table refuse of a GROUP.
use Rattle.std.specs.Prelude.{ℕ, cond, List, get_or}
use Rattle.cells.specs.promises.Labelled.{column_formed_at}
use Rattle.cells.specs.promises.Search.{Reply, says, unfit}
use Rattle.label_discharge.specs.Discharge.{forbids_a}
use Rattle.live_tables.specs.declared.LiveTable.{LiveTable}
use Rattle.memory.specs.promises.Stack.{labels_in}
use Rattle.plan.specs.Group.{check_group}
use Rattle.plan.specs.Verdict.{Verdict, refuse_if}

-- 32 in one row
abbrev pub forbids_at : ℕ → ℕ → List ℕ → Verdict
forbids_at column row labels = refuse_if (forbids_a (get_or labels column 0)) 32 row column

-- the meaning's answer, where the labels in the column are well-formed
abbrev pub group_says : List ℕ → LiveTable → ℕ → ℕ → Reply
group_says labels table keys column =
    cond (column_formed_at labels table.at table.rows table.columns column) (says (check_group keys column (labels_in labels table))) unfit
