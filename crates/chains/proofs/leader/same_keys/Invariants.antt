-- `chains::leader::same_keys` meets its contract. The loop: the keys among the columns passed are the same. Assumes nothing.
use mathlib.Core.Path.{◌≡◌}
use mathlib.Core.Bool.{true}
use Rattle.chains.specs.promises.Leads.{same_upto}
use Rattle.chains.proofs.leader.same_keys.Given as goal

abbrev pub invariant-loop-column : goal.invariant-loop-column
invariant-loop-column l = true ≡ same_upto l.keys l.first l.second l.column
