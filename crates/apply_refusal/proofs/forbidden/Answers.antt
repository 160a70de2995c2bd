-- `apply_refusal::forbidden` meets its contract. Assumes nothing.
use mathlib.Core.Path.{◌∙◌}
use Rattle.memory.proofs.Forbids.{forbids-equal}
use Rattle.apply_refusal.proofs.Laws.{forbids-is}
use Rattle.apply_refusal.proofs.forbidden.Goals as goal

pub returns : goal.returns
returns c = c.eq.ensures ∙ forbids-equal c.discharged.result ∙ forbids-is c.args.word _ _ c.requires.0 c.requires.1 c.discharged.result c.discharged.ensures
