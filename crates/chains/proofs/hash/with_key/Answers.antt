-- `chains::hash::with_key` meets its contract. Assumes nothing.
use mathlib.Core.Path.{◌≡◌, refl}
use mathlib.Core.Bool.{Bool, true, false, cond}
use mir.Val.{bool_byte}
use Rattle.chains.specs.promises.Hash.{with_key}
use Rattle.value.specs.Range.{settled}
use Rattle.value.proofs.Machine.{said, back_is}
use Rattle.chains.proofs.hash.with_key.Goals as goal

-- a truth value as a number
byte-is : (b : Bool) → bool_byte b ≡ cond b 1 0
byte-is true = refl
byte-is false = refl

pub returns : goal.returns
unfolding with_key
returns c =
    rw (byte-is c.negative.result, c.negative.ensures, c.magnitude.ensures, back_is c.settled-key.result c.settled-key.type_inv, said settled c.ranges.value c.settled-key.ensures)
