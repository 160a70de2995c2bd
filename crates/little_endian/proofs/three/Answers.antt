-- `little_endian::three` meets its contract. Assumes nothing.
use mathlib.Core.Path.{◌∙◌}
use Rattle.little_endian.proofs.Numbers.{number-one, joined, in_rest}
use Rattle.little_endian.proofs.three.Goals as goal

pub returns : goal.returns
returns c =
    let there = c.rest-there.result.now in
    joined there 0 2 1 c.two.ensures (number-one there 2 c.byte.ensures) ∙ in_rest c.args.bytes.now c.args.at 3 c.rest-there.ensures
