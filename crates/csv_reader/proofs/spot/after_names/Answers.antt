-- `csv_reader::spot::after_names` meets its contract. Assumes nothing.
use mathlib.Core.Path.{sym, ◌∙◌}
use Rattle.csv_text.specs.Text.{names}
use Rattle.csv_reader.specs.Reader.{after_names}
use Rattle.csv_reader.proofs.Spots.{is_next}
use Rattle.csv_reader.proofs.spot.after_names.Goals as goal

pub returns-then-eq : goal.returns-then-eq
unfolding after_names
returns-then-eq c = rw (sym (is_next names c.args.i c.get.result _ c.get.ensures.lookup) ∙ sym c.eq.ensures ∙ c.if-eq.true)

pub returns-then-byte-i : goal.returns-then-byte-i
unfolding after_names
returns-then-byte-i c = rw (sym (is_next names c.args.i c.get.result _ c.get.ensures.lookup) ∙ sym c.eq.ensures ∙ c.if-eq.false, c.if-byte-i.true)

pub returns : goal.returns
unfolding after_names
returns c = rw (sym (is_next names c.args.i c.get.result _ c.get.ensures.lookup) ∙ sym c.eq.ensures ∙ c.if-eq.false, c.if-byte-i.false)
