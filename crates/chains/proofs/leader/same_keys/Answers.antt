-- `chains::leader::same_keys` meets its contract. The loop: the keys among the columns passed are the same. Assumes nothing.
use Prim.Native.Nat.{◌+◌, ◌-◌}
use mathlib.Core.Path.{ap₂, ◌≡◌, sym, ◌∙◌}
use native.Mathlib.Omega.{arith}
use lib.ListN.{length}
use borrow.Author.Tests.{eq-eqb, ne_eqb, not-false}
use Rattle.plan.specs.Masks.{in_mask}
use Rattle.comparison.specs.Comparison.{same}
use Rattle.chains.proofs.Reading.{key-compared, column-passed, differ}
use Rattle.value.proofs.Machine.{back_is}
use Rattle.chains.proofs.leader.same_keys.Goals as goal
use Rattle.chains.proofs.leader.same_keys.Goals.{else-keys-column-eq1-via-then-keys-column-eq1+else-not-same, else-keys-column-eq1-via-else-keys-column-eq1}

pub returns-then-not-same : goal.returns-then-not-same
unfolding in_mask
returns-then-not-same c =
    let a = c.args in
    let column = c.loop-column.column in
    let e : length a.first.now - (column + 1) + (column + 1) ≡ length a.first.now = omega arith in
    let here = key-compared a.keys column _ _ c.loop-column.invariant (eq-eqb _ 1 c.if-keys-column-eq1.true) (c.same.ensures ∙ ap₂ same (back_is _ c.same-arg-1.given) (back_is _ c.same-arg-then-keys-column-eq1-1.given)) in
    sym (rw e at (differ a.keys (column + 1) (length a.first.now - (column + 1)) _ _ (sym here ∙ c.if-not-same.true)))

pub loop-column-preserved : goal.loop-column-preserved
unfolding in_mask
loop-column-preserved c =
    let a = c.args in
    elim c.else-keys-column-eq1.branch [
      | else-keys-column-eq1-via-then-keys-column-eq1+else-not-same w ↦
          sym (not-false _ w.if-not-same.false-raw)
          ∙ key-compared a.keys c.loop-column.column _ _ c.loop-column.invariant (eq-eqb _ 1 w.if-keys-column-eq1.true) (w.same.ensures ∙ ap₂ same (back_is _ w.same-arg-1.given) (back_is _ w.same-arg-then-keys-column-eq1-1.given))
      | else-keys-column-eq1-via-else-keys-column-eq1 w ↦
          column-passed a.keys c.loop-column.column _ _ c.loop-column.invariant (ne_eqb _ 1 w.if-keys-column-eq1.false)
    ]
