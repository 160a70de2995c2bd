-- `label_discharge::discharge::discharge_transform` meets its contract. Assumes nothing.
use mathlib.Core.Path.{sym, ◌∙◌}
use Rattle.label_discharge.specs.Discharge.{transform_answer}
use Rattle.label_discharge.proofs.Levels.{at-T}
use Rattle.label_discharge.proofs.discharge.discharge_transform.Goals as goal

pub returns : goal.returns
unfolding transform_answer
returns c = rw (sym c.well_formed-2.ensures ∙ c.if-not-well_formed.false, sym c.transform_exists.ensures ∙ c.if-not-transform_exists.false) (rw c.allows_transform.ensures at c.at_level.ensures ∙ at-T _ c.ranges.word.fits _ _)
