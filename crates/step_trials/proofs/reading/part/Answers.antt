-- `nth` answers a part of the split, or none past the last.
use Rattle.std.proofs.Common.{rules, ◌≡◌, ◌==◌, List, [], ℕ, refl, ap, ◌∙◌, unwrap_or}
use Rattle.std.specs.Prelude.{Option, Some, None, option_map}
use Rattle.std.proofs.lemmas.Iterator.Consumers.{nth_from_yields_List}
use Rattle.std.proofs.lemmas.Iterator.Splits.{YieldsList-from_slice_split}
use denote.Ref.{Bor}
use Rattle.step_trials.proofs.reading.part.Goals as goal

found_or : (found : Option (Bor (List ℕ))) (other : Bor (List ℕ)) → other.now ≡ [] → (unwrap_or found other).now ≡ unwrap_or (option_map (λ part. part.now) found) []
found_or None other e = e
found_or (Some part) other e = refl

pub returns : goal.returns
returns c =
    let part = nth_from_yields_List c.nth.result _ c.args.index c.nth.ensures.ran
    (YieldsList-from_slice_split _ (λ x. x == c.args.byte) c.args.text.now c.split.ensures.rest c.split.ensures.done c.split.ensures.closure (λ x b q k. search rules)) in
    ap (λ (part : Bor (List ℕ)). part.now) c.unwrap_or.ensures ∙ found_or c.nth.result _ refl ∙ ap (λ found. unwrap_or found []) part
