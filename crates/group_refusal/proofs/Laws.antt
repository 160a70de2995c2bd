-- The label library's answer to an aggregate. Assumes nothing.
use Prim.Native.Nat.{ℕ, ◌<◌}
use mathlib.Core.Path.{◌≡◌, refl, ap, ◌∙◌}
use mathlib.Core.Bool.{Bool, true, false, cond}
use native.Mathlib.Omega.{arith}
use borrow.Author.Tests.{lt-ltb}
use lib.Dec.{eqb}
use Rattle.std.specs.Prelude.{Result, Ok, Err}
use Rattle.std.specs.Result.{result_eq}
use Rattle.label_words.specs.Answers.{label_says, label, forbidden}
use Rattle.label_discharge.specs.Discharge.{forbids_a, after_a, aggregate_exists, aggregated, aggregate_answer}
use Rattle.label_words.specs.WellFormed.{well_formed}
use Rattle.label_words.specs.declared.LabelRefusal.{LabelRefusal}
use Rattle.label_words.specs.declared.LabelRefusal.TheVariants.{Forbidden, IllFormed, NoOperation}
use Rattle.plan.specs.Numbers.{aggregate_code}
use Rattle.plan.specs.declared.Aggregate.{Aggregate}
use Rattle.plan.specs.declared.Aggregate.TheVariants.{Count, Sum, Min, Max, Avg}
use Rattle.memory.proofs.Forbids.{forbids, forbids-either}

-- whether the answer to an aggregate forbids it
pub forbids-is : (answer : Result ℕ LabelRefusal) (word code rows : ℕ) → label_says answer ≡ aggregate_answer word code rows → well_formed word ≡ true → code < 5 → forbids (label_says answer) ≡ forbids_a word
unfolding aggregate_answer aggregate_exists aggregated
forbids-is answer word code rows e w h =
    let is : label_says answer ≡ cond (forbids_a word) forbidden (label (after_a word code rows)) = e ∙ rw (w, lt-ltb code 5 h) in
    ap forbids is ∙ forbids-either (forbids_a word) (after_a word code rows)

-- the answer is the one that forbids
pub forbidden-told : (equal : LabelRefusal → LabelRefusal → Bool) → equal Forbidden Forbidden ≡ true → equal IllFormed Forbidden ≡ false → equal NoOperation Forbidden ≡ false
    → (answer : Result ℕ LabelRefusal) → result_eq eqb equal answer (Err Forbidden) ≡ forbids (label_says answer)
forbidden-told equal f i n (Ok word) = refl
forbidden-told equal f i n (Err Forbidden) = f
forbidden-told equal f i n (Err IllFormed) = i
forbidden-told equal f i n (Err NoOperation) = n

pub few-codes : (aggregate : Aggregate) → aggregate_code aggregate < 5
few-codes Count = omega arith
few-codes Sum = omega arith
few-codes Min = omega arith
few-codes Max = omega arith
few-codes Avg = omega arith
