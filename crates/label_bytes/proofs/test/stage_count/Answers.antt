-- `label_bytes::test::stage_count` meets its contract. Assumes nothing.
use mathlib.Core.Path.{◌∙◌}
use Rattle.label_bytes.proofs.Bytes.{first-ones}
use Rattle.label_bytes.proofs.test.stage_count.Goals as goal

pub returns : goal.returns
returns c = c.upper_ones.ensures ∙ first-ones c.args.label.now 0 c.fits-label
