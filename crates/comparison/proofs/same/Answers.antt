-- `comparison::same` meets its contract.
-- Assumes nothing.
use mathlib.Core.Path.{◌∙◌, ap₂}
use borrow.Author.Rules.{sfits_of}
use Rattle.value.specs.Range.{settled}
use Rattle.value.specs.Equality.{eq_z}
use Rattle.comparison.specs.Comparison.{same}
use Rattle.value.proofs.Machine.{said, eqb-bits}
use Rattle.comparison.proofs.same.Goals as goal

pub returns : goal.returns
unfolding same
returns c =
    let f = c.ranges in
    eqb-bits _ _ (sfits_of c.settled.type_inv) (sfits_of c.settled-2.type_inv)
    ∙ ap₂ eq_z (said settled f.a c.settled.ensures) (said settled f.b c.settled-2.ensures)
