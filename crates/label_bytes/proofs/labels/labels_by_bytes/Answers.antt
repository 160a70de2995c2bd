-- `label_bytes::labels::labels_by_bytes` meets its contract. Assumes nothing.
use mathlib.Core.Path.{sym, ◌∙◌}
use borrow.Author.Tests.{lt-ltb, le-ltb}
use Rattle.label_bytes.specs.Words.{words_of}
use Rattle.label_bytes.proofs.Counts.{counted_chunks}
use Rattle.label_bytes.proofs.Words.{words-length}
use Rattle.label_bytes.proofs.labels.labels_by_bytes.Goals as goal

pub returns-then-labels-gt8192 : goal.returns-then-labels-gt8192
returns-then-labels-gt8192 c = rw (words-length _, lt-ltb _ _ (rw c.as_chunks.ensures.front_len at c.if-labels-gt8192.true))

pub returns : goal.returns
unfolding words_of
returns c =
    rw (words-length c.args.bytes.now, le-ltb _ _ (rw c.as_chunks.ensures.front_len at c.if-labels-gt8192.false))
    (rw c.as_chunks.ensures.front at c.counted_by_bytes.ensures ∙ sym (counted_chunks _ c.args.bytes.now))
