-- `little_endian::four` meets its contract. Assumes nothing.
use mathlib.Core.Path.{◌∙◌}
use Rattle.little_endian.proofs.Numbers.{joined, of_chunk, in_rest}
use Rattle.little_endian.proofs.four.Goals as goal

pub returns-in-Some : goal.returns-in-Some
returns-in-Some c = c.from_le_bytes.ensures ∙ of_chunk c.args.bytes.now c.args.at 3 c.in-Some.ensures

pub returns-in-None : goal.returns-in-None
returns-in-None c = joined c.rest-there.result.now 0 2 2 c.two.ensures c.two-in-None.ensures ∙ in_rest c.args.bytes.now c.args.at 4 c.rest-there.ensures
