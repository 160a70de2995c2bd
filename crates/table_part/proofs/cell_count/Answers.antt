-- `table_part::cell_count` meets its contract. Assumes nothing.
use Prim.Native.Nat.{◌*◌, ◌≤◌}
use mathlib.Core.Path.{ap₂}
use native.Mathlib.Nat.{mul-le-mul}
use native.Mathlib.Omega.{arith}
use Rattle.table_part.proofs.cell_count.Goals as goal

pub overflow_mul-result : goal.overflow_mul-result
overflow_mul-result c =
    let r : c.two.result ≤ 65535 = omega arith in
    let w : c.byte.result ≤ 255 = omega arith in
    omega (arith, mul-le-mul r w)

pub returns : goal.returns
returns c = ap₂ ◌*◌ c.two.ensures c.byte.ensures
