-- `chains::leader::chain` meets its contract. The loop: the rows from one on have their next rows. Assumes nothing.
use Prim.Native.Nat.{◌-◌}
use mathlib.Core.Path.{◌≡◌}
use lib.ListN.{drop, replicate}
use Rattle.chains.proofs.Chaining.{Chaining}
use Rattle.chains.proofs.leader.chain.Given as goal

abbrev pub invariant-loop-row : goal.invariant-loop-row
invariant-loop-row l = Chaining l.rows l.leaders l.next l.ahead l.row × (drop l.rows l.next ≡ replicate (256 - l.rows) 0)
