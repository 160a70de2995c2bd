-- `group_refusal::forbids` meets its contract. Assumes nothing.
use mathlib.Core.Path.{◌≡◌, refl, ◌∙◌}
use Rattle.label_words.specs.Answers.{label_says}
use Rattle.label_discharge.specs.Discharge.{forbids_a}
use Rattle.memory.proofs.Forbids.{forbids}
use Rattle.group_refusal.proofs.Laws.{forbids-is, few-codes, forbidden-told}
use Rattle.group_refusal.proofs.forbids.Goals as goal
use Rattle.group_refusal.proofs.forbids.Goals.{After-discharge_aggregate}

-- the library's answer
answered : (c : After-discharge_aggregate) → forbids (label_says c.discharge_aggregate.result) ≡ forbids_a c.args.word
answered c =
    forbids-is c.discharge_aggregate.result c.args.word _ 1 (rw c.aggregate_code-code.ensures at c.discharge_aggregate.ensures) c.requires (few-codes c.args.aggregate)

pub returns : goal.returns
returns c = c.eq.ensures ∙ forbidden-told _ refl refl refl c.discharge_aggregate.result ∙ answered (goal.at.returns c).After-discharge_aggregate
