-- `chains::hash::key_hash` meets its contract. The loop: the hash value is that of the keys among the columns passed. Assumes nothing.
use mathlib.Core.Path.{◌∙◌}
use native.Mathlib.Numerals.{add-one}
use borrow.Author.Tests.{eq-eqb, ne_eqb}
use Rattle.plan.specs.Masks.{in_mask}
use Rattle.value.proofs.Machine.{back_is}
use Rattle.chains.proofs.hash.key_hash.Goals as goal
use Rattle.chains.proofs.hash.key_hash.Goals.{else-keys-column-eq1, then-keys-column-eq1}

pub loop-column-preserved : goal.loop-column-preserved
unfolding in_mask
loop-column-preserved c =
    elim c.if-keys-column-eq1.branch [ then-keys-column-eq1 w ↦ w.hash-is ∙ w.with_key-hash.ensures ∙ rw (add-one c.loop-column.column, eq-eqb _ 1 w.if-keys-column-eq1.true, c.loop-column.invariant, back_is _ w.with_key-arg-1.given) | else-keys-column-eq1 w ↦ w.hash-is ∙ c.loop-column.invariant ∙ rw (add-one c.loop-column.column, ne_eqb _ 1 w.if-keys-column-eq1.false) ]
