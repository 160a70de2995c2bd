-- `noise_refusal::forbidden` meets its contract. Assumes nothing.
use mathlib.Core.Path.{◌∙◌}
use Rattle.memory.proofs.Forbids.{forbids-equal}
use Rattle.noise_refusal.proofs.Laws.{forbids-is}
use Rattle.noise_refusal.proofs.forbidden.Goals as goal

pub returns : goal.returns
returns c = c.eq.ensures ∙ forbids-equal c.discharge_noise.result ∙ forbids-is c.args.word c.requires c.discharge_noise.result c.discharge_noise.ensures
