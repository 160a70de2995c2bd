-- `table_part::shape_of` meets its contract. Assumes nothing.
use Rattle.table_part.specs.promises.Shape.{shape_of}
use Rattle.table_part.proofs.shape_of.Goals as goal

pub returns : goal.returns
unfolding shape_of
returns c = rw (c.two.ensures, c.byte.ensures)
