-- Stages summed label by label. Assumes nothing.
use Prim.Native.Nat.{ℕ, zero, suc, ◌+◌, ◌*◌, ◌≤◌, ◌<◌, ◌^◌}
use mathlib.Core.Path.{◌≡◌, refl, ap}
use mathlib.Core.Bool.{Bool, true, false}
use mathlib.Core.List.{List, [], ◌∷◌, ◌++◌}
use native.Mathlib.Nat.{zero-mul}
use native.Mathlib.Omega.{arith}
use lib.ListN.{length, take, drop}
use lib.Seq.{take-add}
use Rattle.std.specs.List.{sum_by}
use Rattle.std.proofs.lemmas.List.Recursion.{is_sum_by}
use Rattle.label_words.specs.Stages.{one, stage_count}
use Rattle.label_words.specs.Word.{has_h, has_t, has_a, has_n}
use Rattle.cells.specs.promises.Cells.{grid_of}
use Rattle.plan.specs.Trace.{stages_in, stages_left}

stages-append : (a b : List ℕ) → stages_in (a ++ b) ≡ stages_in a + stages_in b
stages-append [] b = omega arith
stages-append (x ∷ a) b = omega (arith, stages-append a b)

-- the stages of a table are those of its labels
pub stages-flat : (columns rows : ℕ) (labels : List ℕ) → stages_left (grid_of columns rows labels) ≡ stages_in (take (rows * columns) labels)
stages-flat columns zero labels = rw zero-mul
stages-flat columns (suc rows) labels =
    let e : suc rows * columns ≡ columns + rows * columns = omega arith in
    rw (e, take-add columns (rows * columns) labels, stages-append (take columns labels) (take (rows * columns) (drop columns labels)))
    (ap (λ (n : ℕ). stages_in (take columns labels) + n) (stages-flat columns rows (drop columns labels)))

-- the same in std's words
pub stages-summed : (labels : List ℕ) → stages_in labels ≡ sum_by (λ label. stage_count label) labels
stages-summed = is_sum_by stages_in (λ label. stage_count label) refl (λ label rest. refl)

-- a label has at most four stages
pub at-most-four : (word : ℕ) → stage_count word ≤ 4
unfolding stage_count
at-most-four word = omega (arith, one_at_most (has_h word), one_at_most (has_t word), one_at_most (has_a word), one_at_most (has_n word))
  where
    one_at_most : (b : Bool) → one b ≤ 1
    one_at_most true = omega arith
    one_at_most false = omega arith

few-stages : (labels : List ℕ) → stages_in labels ≤ 4 * length labels
few-stages [] = omega arith
few-stages (x ∷ rest) = omega (arith, at-most-four x, few-stages rest)

-- so those of a table fit in a word
pub stages-fit : (labels : List ℕ) → length labels ≤ 2048 → sum_by (λ label. stage_count label) labels < 2 ^ 32
stages-fit labels h = rw (← stages-summed labels) (omega (arith, few-stages labels))
