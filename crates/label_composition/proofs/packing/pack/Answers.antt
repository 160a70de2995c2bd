-- `label_composition::packing::pack` meets its contract: each field is put in front of those below it. Assumes nothing.
use Prim.Native.Nat.{ℕ, ◌+◌, ◌*◌, ◌%◌, ◌^◌, ◌≤◌, ◌<◌}
use mathlib.Core.Path.{◌≡◌}
use native.Mathlib.Omega.{arith}
use lib.Bits.{bit_or, or_shifted}
use lib.Dec.{lit≤}
use lib.Pow.{shl_exact}
use Rattle.label_words.specs.Word.{packed}
use Rattle.label_composition.proofs.packing.pack.Goals as goal

-- a field put in front of what stands below it
put : (field at rest width : ℕ) → field < 2 ^ width → width + at ≤ 32 → rest < 2 ^ at → bit_or (field * 2 ^ at % 2 ^ 32) rest ≡ field * 2 ^ at + rest
put field at rest width f fits r = rw (shl_exact width at 32 f fits) (or_shifted field at rest r)

pub returns : goal.returns
unfolding packed
returns c =
    let a = c.args in
    let w1 = a.digits * 2 ^ 10 + a.minimum in
    let w2 = a.aggregates * 2 ^ 16 + w1 in
    let w3 = a.noise * 2 ^ 23 + w2 in
    let w4 = a.transforms * 2 ^ 24 + w3 in
    rw (
      put a.digits 10 a.minimum 3 (omega arith) (lit≤ tt) (omega arith),
      put a.aggregates 16 w1 5 (omega arith) (lit≤ tt) (omega arith),
      put a.noise 23 w2 1 (omega arith) (lit≤ tt) (omega arith),
      put a.transforms 24 w3 4 (omega arith) (lit≤ tt) (omega arith),
      put a.stages 28 w4 4 (omega arith) (lit≤ tt) (omega arith),
    ) (omega arith)
