-- `label_discharge::level_n::discharge_noise` meets its contract. Assumes nothing.
use mathlib.Core.Path.{sym, ◌∙◌}
use Rattle.label_discharge.specs.Discharge.{allows_noise, noise_answer}
use Rattle.label_discharge.proofs.Levels.{at-N}
use Rattle.label_discharge.proofs.level_n.discharge_noise.Goals as goal

pub returns : goal.returns
unfolding noise_answer allows_noise
returns c = rw (sym c.well_formed-2.ensures ∙ c.if-not-well_formed.false) (rw c.bit.ensures at c.at_level.ensures ∙ at-N _ c.ranges.word.fits)
