-- What the labels of a table and the draws left refuse of a NOISE.
use Rattle.std.specs.Prelude.{ℕ, cond, List}
use Rattle.cells.specs.promises.Labelled.{column_formed_at}
use Rattle.cells.specs.promises.Search.{Reply, says, unfit}
use Rattle.live_tables.specs.declared.LiveTable.{LiveTable}
use Rattle.memory.specs.promises.Stack.{labels_in}
use Rattle.plan.specs.Noise.{check_noise}

-- the meaning's answer, where the labels in the column are well-formed
abbrev pub noise_says : List ℕ → LiveTable → ℕ → ℕ → Reply
noise_says labels table column left =
    cond (column_formed_at labels table.at table.rows table.columns column) (says (check_noise column left (labels_in labels table))) unfit
