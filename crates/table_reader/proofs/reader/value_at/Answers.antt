-- `table_reader::reader::value_at` meets its contract. Assumes nothing.
use mathlib.Core.Path.{ap, ◌∙◌}
use Rattle.little_endian.proofs.Numbers.{of_part}
use Rattle.value.specs.Pattern.{signed_of}
use Rattle.value.proofs.Machine.{back_is}
use Rattle.table_reader.proofs.reader.value_at.Goals as goal

pub returns : goal.returns
returns c =
    let a = c.args in
    back_is c.signed.result c.signed.type_inv ∙ c.signed.ensures ∙ ap signed_of (c.eight.ensures ∙ of_part a.table.now a.place 8)
