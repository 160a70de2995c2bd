-- The same slices after one call and another. Assumes nothing.
use mathlib.Core.Path.{◌∙◌}
use Rattle.cells.specs.declared.lent.LentCells.{LentCells}
use Rattle.cells.specs.promises.Lent.{SameCells}

pub same-then : {before mid after : LentCells} → SameCells before mid → SameCells mid after → SameCells before after
same-then s t = record { values-same = t.values-same ∙ s.values-same; labels-same = t.labels-same ∙ s.labels-same }
