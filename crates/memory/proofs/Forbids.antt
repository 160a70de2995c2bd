-- Whether the label library's answer forbids, as APPLY, GROUP and NOISE ask. Assumes nothing.
use Prim.Native.Nat.{ℕ}
use mathlib.Core.Path.{◌≡◌, refl}
use mathlib.Core.Bool.{Bool, true, false, cond}
use lib.Dec.{eqb}
use Rattle.std.specs.Prelude.{◌≢◌, Result, Ok, Err}
use Rattle.std.specs.Result.{result_eq}
use Rattle.label_words.specs.Answers.{LabelVerdict, label, forbidden, refused, label_says}
use Rattle.label_words.specs.contracts.LabelRefusalPartialEq.TheImpl as equality
use Rattle.label_words.specs.declared.LabelRefusal.{LabelRefusal}
use Rattle.label_words.specs.declared.LabelRefusal.TheVariants.{Forbidden, IllFormed, NoOperation}

abbrev pub forbids : LabelVerdict → Bool
forbids (label left) = false
forbids forbidden = true
forbids (refused number place) = false

pub forbids-not : (a : Result ℕ LabelRefusal) → a ≢ Err Forbidden → forbids (label_says a) ≡ false
forbids-not (Ok left) k = refl
forbids-not (Err Forbidden) k = absurd (k refl)
forbids-not (Err IllFormed) k = refl
forbids-not (Err NoOperation) k = refl

-- as `==` asks
pub forbids-equal : (a : Result ℕ LabelRefusal) → result_eq eqb equality.eq-value.it a (Err Forbidden) ≡ forbids (label_says a)
forbids-equal (Ok left) = refl
forbids-equal (Err Forbidden) = refl
forbids-equal (Err IllFormed) = refl
forbids-equal (Err NoOperation) = refl

pub forbids-either : (b : Bool) (left : ℕ) → forbids (cond b forbidden (label left)) ≡ b
forbids-either true left = refl
forbids-either false left = refl
