-- `little_endian::two` meets its contract. Assumes nothing.
use Prim.Native.Nat.{◌+◌}
use mathlib.Core.Path.{◌∙◌}
use native.Mathlib.Omega.{arith}
use Rattle.little_endian.proofs.Numbers.{number-one, joined, past_end, of_chunk}
use Rattle.little_endian.proofs.two.Goals as goal

pub returns-in-Some : goal.returns-in-Some
returns-in-Some c = c.from_le_bytes.ensures ∙ of_chunk c.args.bytes.now c.args.at 1 c.in-Some.ensures

pub returns-in-None : goal.returns-in-None
returns-in-None c =
    let a = c.args in
    let none = past_end a.bytes.now (a.at + 1) 1 (omega (arith, c.in-None.ensures)) in
    omega (arith, joined a.bytes.now a.at 1 1 (number-one a.bytes.now a.at c.byte.ensures) none)
