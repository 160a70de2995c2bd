-- What the label library answers to a label and an operation that exists. Assumes nothing.
use Prim.Native.Nat.{ℕ}
use mathlib.Core.Path.{◌≡◌, ap, ◌∙◌}
use mathlib.Core.Bool.{true, cond}
use Rattle.std.specs.Prelude.{Result}
use Rattle.label_words.specs.Answers.{label, forbidden, label_says}
use Rattle.label_discharge.specs.Discharge.{forbids_t, after_t, transform_exists, transformed, transform_answer}
use Rattle.label_words.specs.WellFormed.{well_formed}
use Rattle.label_words.specs.declared.LabelRefusal.{LabelRefusal}
use Rattle.memory.proofs.Forbids.{forbids, forbids-either}

module _ (word operation digits : ℕ) (wf : well_formed word ≡ true) (exists : transform_exists operation digits ≡ true) (a : Result ℕ LabelRefusal) (e : label_says a ≡ transform_answer word operation digits) where
  pub answered : label_says a ≡ cond (forbids_t word) forbidden (label (after_t word operation digits))
  unfolding transform_answer transformed
  answered = e ∙ rw (wf, exists)

  pub forbids-is : forbids (label_says a) ≡ forbids_t word
  forbids-is = ap forbids answered ∙ forbids-either (forbids_t word) _
