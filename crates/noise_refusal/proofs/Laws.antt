-- What the label library answers to a label and noise. Assumes nothing.
use Prim.Native.Nat.{ℕ}
use mathlib.Core.Path.{◌≡◌, ap, ◌∙◌}
use mathlib.Core.Bool.{true, cond}
use Rattle.std.specs.Prelude.{Result}
use Rattle.label_words.specs.Answers.{label, forbidden, label_says}
use Rattle.label_discharge.specs.Discharge.{forbids_n, after_n, noised, noise_answer}
use Rattle.label_words.specs.WellFormed.{well_formed}
use Rattle.label_words.specs.declared.LabelRefusal.{LabelRefusal}
use Rattle.memory.proofs.Forbids.{forbids, forbids-either}

module _ (word : ℕ) (wf : well_formed word ≡ true) (a : Result ℕ LabelRefusal) (e : label_says a ≡ noise_answer word) where
  pub answered : label_says a ≡ cond (forbids_n word) forbidden (label (after_n word))
  unfolding noise_answer noised
  answered = e ∙ rw wf

  pub forbids-is : forbids (label_says a) ≡ forbids_n word
  forbids-is = ap forbids answered ∙ forbids-either (forbids_n word) _
