-- What the labels of a table refuse of an APPLY.
use Rattle.std.specs.Prelude.{ℕ, Bool, cond, ◌&&◌, List}
use Rattle.cells.specs.promises.Labelled.{column_formed_at}
use Rattle.cells.specs.promises.Search.{Reply, says, unfit}
use Rattle.operations.specs.promises.Operations.{operation_fits}
use Rattle.live_tables.specs.declared.LiveTable.{LiveTable}
use Rattle.memory.specs.promises.Stack.{labels_in}
use Rattle.plan.specs.Apply.{check_apply}
use Rattle.plan.specs.declared.Transform.{Transform}

-- the operation exists, and the labels in the column are well-formed
abbrev pub operand_formed : List ℕ → LiveTable → ℕ → Transform → Bool
operand_formed labels table column transform = operation_fits transform && column_formed_at labels table.at table.rows table.columns column

-- the meaning's answer then
abbrev pub apply_says : List ℕ → LiveTable → ℕ → Transform → Reply
apply_says labels table column transform = cond (operand_formed labels table column transform) (says (check_apply column transform (labels_in labels table))) unfit
