-- `keep::keeping::keep_rows` meets its contract. Assumes nothing.
use Prim.Native.Nat.{◌+◌, ◌*◌}
use mathlib.Core.Path.{◌≡◌}
use native.Mathlib.Omega.{arith}
use Rattle.std.proofs.Common.{rules}
use Rattle.keep.proofs.KeepLoop.{rows-begin, row_fits, row_next}
use Rattle.keep.proofs.keeping.keep_rows.Goals as goal

pub loop-row-init : goal.loop-row-init
loop-row-init c =
    let top = c.args.top in
    let e : top.at + 0 * top.columns ≡ top.at = omega arith in
    (rw e (rows-begin c.requires), search rules)

pub keep_row-to-requires : goal.keep_row-to-requires
keep_row-to-requires c = row_fits c.requires c.loop-row.invariant.0 c.loop-row-test.true

pub loop-row-preserved : goal.loop-row-preserved
loop-row-preserved c =
    let top = c.args.top in
    let next : top.at + (c.loop-row.row + 1) * top.columns ≡ top.at + c.loop-row.row * top.columns + top.columns = omega arith in
    (rw next (row_next c.requires c.loop-row.invariant.0 c.loop-row-test.true c.keep_row-to.ensures.done), search rules)
