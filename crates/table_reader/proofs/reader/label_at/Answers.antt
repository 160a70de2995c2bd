-- `table_reader::reader::label_at` meets its contract. Assumes nothing.
use mathlib.Core.Path.{◌∙◌}
use Rattle.little_endian.proofs.Numbers.{of_part}
use Rattle.table_reader.proofs.reader.label_at.Goals as goal

pub returns : goal.returns
returns c = let a = c.args in c.four.ensures ∙ of_part a.table.now a.place 4
