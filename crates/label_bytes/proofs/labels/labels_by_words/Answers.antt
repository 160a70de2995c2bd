-- `label_bytes::labels::labels_by_words` meets its contract. Assumes nothing.
use mathlib.Core.Path.{sym, ◌∙◌}
use borrow.Author.Tests.{le-ltb}
use Rattle.label_bytes.proofs.Counts.{counted}
use Rattle.label_bytes.proofs.labels.labels_by_words.Goals as goal

pub returns : goal.returns
returns c = rw (le-ltb _ _ c.if-words-gt8192.false) (c.counted_by_words.ensures ∙ sym (counted c.args.words.now))
