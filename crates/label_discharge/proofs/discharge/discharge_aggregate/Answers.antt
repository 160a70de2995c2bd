-- `label_discharge::discharge::discharge_aggregate` meets its contract. Assumes nothing.
use mathlib.Core.Path.{sym, ◌∙◌}
use borrow.Author.Tests.{lt-ltb}
use Rattle.label_discharge.specs.Discharge.{aggregate_answer, aggregate_exists}
use Rattle.label_discharge.proofs.Levels.{at-A}
use Rattle.label_discharge.proofs.discharge.discharge_aggregate.Goals as goal

pub returns : goal.returns
unfolding aggregate_answer aggregate_exists
returns c = rw (sym c.well_formed-2.ensures ∙ c.if-not-well_formed.false, lt-ltb _ _ c.if-operation-ge5.false) (rw c.allows_aggregate.ensures at c.at_level.ensures ∙ at-A _ c.ranges.word.fits _ _)
