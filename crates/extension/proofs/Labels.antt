-- The label that an answer of the label library leaves. Assumes nothing.
use Prim.Native.Nat.{ℕ}
use mathlib.Core.Path.{◌≡◌, refl, sym}
use mathlib.Core.Bool.{Bool, true, false, cond}
use Rattle.extension.specs.promises.Labels.{label_left}
use Rattle.label_words.specs.Answers.{label, forbidden}

-- a label on which the operation is forbidden stays
pub left-after : (word after : ℕ) (forbids : Bool) → (forbids ≡ true → after ≡ word) → label_left word (cond forbids forbidden (label after)) ≡ after
left-after word after true stays = sym (stays refl)
left-after word after false stays = refl
