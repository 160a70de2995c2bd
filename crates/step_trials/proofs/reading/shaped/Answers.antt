-- `all` tries each word beside the shape's.
use Rattle.std.proofs.Common.{rules, ◌≡◌, ◌==◌, eq-eqb}
use Rattle.std.proofs.lemmas.Iterator.{YieldsList-from_zip}
use Rattle.std.proofs.lemmas.Iterator.Search.{all_from_yields_List}
use Rattle.std.proofs.lemmas.Iterator.Splits.{YieldsList-from_slice_split}
use Rattle.step_trials.specs.Words.{count_of, word_fits, shaped}
use Rattle.step_trials.proofs.reading.shaped.Goals as goal

pub returns-then-count : goal.returns-then-count
unfolding shaped
returns-then-count c =
    let words = all_from_yields_List (λ pair. word_fits pair.0 pair.1) c.all.new.self _ c.all.result c.all.ensures.ran
    (YieldsList-from_zip
    (YieldsList-from_slice_split _ (λ x. x == 32) c.args.text.now (cc) (cc) (cc) (λ x b q k. search rules))
    (YieldsList-from_slice_split _ (λ x. x == 32) c.args.shape.now (cc) (cc) (cc) (λ x b q k. search rules)))
    (λ x b q k. search rules) in
    let same : count_of 32 c.args.text.now ≡ count_of 32 c.args.shape.now = cc in
    rw (eq-eqb _ _ same) words
