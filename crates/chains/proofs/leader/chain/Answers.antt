-- `chains::leader::chain` meets its contract. The loop: the rows from one on have their next rows. Assumes nothing.
use Prim.Native.Nat.{◌+◌, ◌-◌}
use mathlib.Core.Path.{◌≡◌, refl, ◌∙◌}
use native.Mathlib.Omega.{arith}
use lib.ListN.{get_or-replicate}
use lib.Seq.{drop-set-lt}
use Rattle.chains.proofs.Chaining.{none-led, chain_more, onward, chained}
use Rattle.chains.proofs.Zeros.{zeros-past}
use Rattle.chains.proofs.leader.chain.Goals as goal

pub loop-row-init : goal.loop-row-init
loop-row-init c =
    let a = c.args in
    (record { full = refl; full-ahead = refl; upto = omega arith; first = λ number h. rw (get_or-replicate 256 number a.rows 0 h) (none-led a.rows a.leaders.now number); each = λ other h k. absurd (omega arith) }, zeros-past a.rows 256)

pub loop-row-preserved : goal.loop-row-preserved
loop-row-preserved c =
    let row = c.loop-row.row - 1 in
    let e : row + 1 ≡ c.loop-row.row = omega arith in
    (chain_more {next = c.loop-row.next} {ahead = c.loop-row.ahead} row (rw e c.loop-row.invariant.0) c.requires.0 (c.requires.2 row (omega arith)), drop-set-lt c.args.rows c.loop-row.next row _ (omega (arith, c.loop-row.invariant.0.upto)) ∙ c.loop-row.invariant.1)

pub returns : goal.returns
returns c =
    let z : c.loop-row.row ≡ 0 = omega arith in
    let all = rw z at c.loop-row.invariant.0 in
    record { chain = chained all (omega arith); onward = onward all; rest = c.loop-row.invariant.1 }
