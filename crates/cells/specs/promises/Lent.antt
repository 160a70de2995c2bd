-- Work memory as it is lent, in slices.
use Rattle.std.specs.Prelude.{ℕ, ◌≡◌, List}
use Rattle.cells.specs.declared.lent.LentCells.{LentCells}
use Rattle.cells.specs.promises.Work.{Work, Memory, work}

-- what they hold: the cells, and the cells with the marks beside them
abbrev pub work_held : LentCells → Work
work_held lent = work lent.values.now lent.labels.now

abbrev pub memory_held : LentCells → List ℕ → Memory
memory_held lent marks = record { work = work_held lent; marks = marks }

-- After a call these are still the slices that were lent, whatever they hold.
pub record SameCells (before after : LentCells) : Type 0 where
  pub values-same : after.values.ghost_name ≡ before.values.ghost_name
  pub labels-same : after.labels.ghost_name ≡ before.labels.ghost_name
