-- `chains::hash::key_hash` meets its contract. The loop: the hash value is that of the keys among the columns passed. Assumes nothing.
use mathlib.Core.Path.{◌≡◌}
use Rattle.chains.specs.promises.Hash.{hash_upto}
use Rattle.chains.proofs.hash.key_hash.Given as goal

abbrev pub invariant-loop-column : goal.invariant-loop-column
invariant-loop-column l = l.hash ≡ hash_upto l.keys l.row l.column
