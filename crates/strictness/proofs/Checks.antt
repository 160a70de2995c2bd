-- What stricter labels do not refuse, less strict ones do not refuse. Assumes nothing.
use Prim.Native.Nat.{ℕ, suc}
use mathlib.Core.Path.{◌≡◌, refl}
use mathlib.Core.Bool.{Bool, true, false, not, ◌&&◌}
use mathlib.Core.List.{List, []}
use lib.Dec.{eqb, leb}
use lib.ListN.{length, get_or}
use borrow.Author.Tests.{eqb-true, eq-eqb}
use Rattle.label_discharge.specs.Discharge.{forbids_t, forbids_a, forbids_n}
use Rattle.label_laws.specs.Order.{AsStrict}
use Rattle.label_laws.proofs.Laws.{zero-well-formed}
use Rattle.label_laws.proofs.OrderProof.{reflexive, clear-least, forbids-less}
use Rattle.plan.specs.Apply.{operand_clear, second_clear, apply_row, check_apply}
use Rattle.plan.specs.Filter.{read_by, check_filter}
use Rattle.plan.specs.Group.{check_group}
use Rattle.plan.specs.Join.{check_join}
use Rattle.plan.specs.Masks.{in_mask}
use Rattle.plan.specs.Noise.{noise_row, check_noise}
use Rattle.plan.specs.Secrecy.{Pairwise, none, more}
use Rattle.plan.specs.Steps.{check}
use Rattle.plan.specs.Table.{clear}
use Rattle.plan.specs.Verdict.{Verdict, fine, refused, or_else, refuse_if, first_row, first_not_clear, not_clear}
use Rattle.plan.specs.declared.Operand.{Operand}
use Rattle.plan.specs.declared.Operand.TheVariants.{Constant, Column}
use Rattle.plan.specs.declared.Step.{Step}
use Rattle.plan.specs.declared.Step.TheVariants.{Scan, Union, Join, Filter, Keep, Apply, Group, Noise}
use Rattle.plan.specs.declared.Transform.{Transform}
use Rattle.plan.specs.declared.Transform.TheVariants.{Add, Sub, Cut, Band}
use Rattle.plan.proofs.Alike.{never, if-fine}
use Rattle.plan.proofs.LockedLaws.{and-not, not-and}
use Rattle.plan.proofs.Pairs.{same_length, both-get}
use Rattle.strictness.specs.Strictness.{StricterLabels}

-- the labels of two tables
abbrev pub Grids : List (List ℕ) → List (List ℕ) → Type 0
Grids = Pairwise (Pairwise StricterLabels)

pub clear-labels : StricterLabels 0 0
clear-labels = record { well-formed = zero-well-formed; strict = reflexive 0 }

-- a label is clear if a stricter one is
pub clear-too : {a b : ℕ} → StricterLabels a b → b ≡ 0 → a ≡ 0
clear-too {a} l e = clear-least a l.well-formed (rw e at l.strict)

-- ---- a test that finds nothing

-- the second is no refusal where the first is none
abbrev pub Spares : Verdict → Verdict → Type 0
Spares v w = v ≡ fine → w ≡ fine

both-spare : (v w v' w' : Verdict) → Spares v v' → Spares w w' → Spares (or_else v w) (or_else v' w')
both-spare fine w v' w' f g e = rw (f refl) (g e)
both-spare (refused number row column) w v' w' f g e = absurd (never e)

if-spares : (fact other : Bool) (number row column : ℕ) → (fact ≡ false → other ≡ false)
    → Spares (refuse_if fact number row column) (refuse_if other number row column)
if-spares fact other number row column f e = rw (f (if-fine fact number row column e))

-- a test of rows that passes less strict labels where it passes stricter ones
abbrev SparesRows : (ℕ → List ℕ → Verdict) → Type 0
SparesRows test = (row : ℕ) (x y : List ℕ) → Pairwise StricterLabels x y → Spares (test row y) (test row x)

rows-spare : (test : ℕ → List ℕ → Verdict) → SparesRows test → (row : ℕ) {xs ys : List (List ℕ)} → Grids xs ys
    → Spares (first_row test row ys) (first_row test row xs)
rows-spare test h row none e = refl
rows-spare test h row (more {x} {y} r p) e = both-spare (test row y) _ (test row x) _ (h row x y r) (rows-spare test h (suc row) p) e

-- 31 and 33: a label is not clear
not-clear-spares : (wanted : Bool) (number row column : ℕ) {a b : ℕ} → StricterLabels a b
    → Spares (refuse_if (wanted && not (clear b)) number row column) (refuse_if (wanted && not (clear a)) number row column)
not-clear-spares wanted number row column {a} {b} l =
    if-spares (wanted && not (clear b)) (wanted && not (clear a)) number row column
    (λ e. not-and wanted (clear a) (λ w. eq-eqb a 0 (clear-too l (eqb-true b 0 (and-not wanted (clear b) e w)))))

clear-row-spares : (wanted : ℕ → Bool) (number column row : ℕ) (x y : List ℕ) → Pairwise StricterLabels x y
    → Spares (first_not_clear wanted number column row y) (first_not_clear wanted number column row x)
clear-row-spares wanted number column row x y none e = refl
clear-row-spares wanted number column row x y (more {x = a} {y = b} {xs} {ys} l p) e =
    both-spare (refuse_if (wanted column && not (clear b)) number row column) (first_not_clear wanted number (suc column) row ys) _ _
    (not-clear-spares (wanted column) number row column l) (clear-row-spares wanted number (suc column) row xs ys p) e

clear-spares : (wanted : ℕ → Bool) (number row : ℕ) {xs ys : List (List ℕ)} → Grids xs ys
    → Spares (not_clear wanted number row ys) (not_clear wanted number row xs)
clear-spares wanted number = rows-spare (first_not_clear wanted number 0) (clear-row-spares wanted number 0)

-- 32: an operation is forbidden on a label
abbrev forbidden_row : (ℕ → Bool) → ℕ → ℕ → List ℕ → Verdict
forbidden_row forbids column row labels = refuse_if (forbids (get_or labels column 0)) 32 row column

forbidden-spares : (forbids : ℕ → Bool) → ((a b : ℕ) → AsStrict a b → forbids b ≡ false → forbids a ≡ false) → (column : ℕ)
    → SparesRows (forbidden_row forbids column)
forbidden-spares forbids less column row x y p =
    if-spares (forbids (get_or y column 0)) (forbids (get_or x column 0)) 32 row column (less _ _ (both-get column 0 clear-labels p).strict)

-- ---- the steps

operand-spares : (operand : Operand) → SparesRows (operand_clear operand)
operand-spares (Constant value) row x y p e = refl
operand-spares (Column column) row x y p e = not-clear-spares true 33 row column (both-get column 0 clear-labels p) e

second-spares : (transform : Transform) → SparesRows (second_clear transform)
second-spares (Add operand) = operand-spares operand
second-spares (Sub operand) = operand-spares operand
second-spares (Cut digits) = λ row x y p e. refl
second-spares (Band width) = λ row x y p e. refl

apply-spares : (column : ℕ) (transform : Transform) → SparesRows (apply_row column transform)
apply-spares column transform row x y p =
    both-spare (forbidden_row forbids_t column row y) (second_clear transform row y) _ _
    (forbidden-spares forbids_t (λ a b s. (forbids-less a b s).0) column row x y p) (second-spares transform row x y p)

noise-spares : (column left : ℕ) → SparesRows (noise_row column left)
noise-spares column left row x y p =
    both-spare (forbidden_row forbids_n column row y) (refuse_if (leb left row) 37 row column) _ _
    (forbidden-spares forbids_n (λ a b s. (forbids-less a b s).2) column row x y p) (λ e. e)

pub check-spares : (step : Step) (left : ℕ) {xs ys : List (List (List ℕ))} → Pairwise Grids xs ys → Spares (check step left ys) (check step left xs)
unfolding check check_join check_filter check_apply check_group check_noise
check-spares (Scan table) left g = λ e. refl
check-spares Union left g = λ e. refl
check-spares (Join a b) left {xs} {ys} g =
    let l = both-get 1 [] none g in
    both-spare (not_clear (λ c. eqb c a) 31 0 (get_or ys 1 [])) (not_clear (λ c. eqb c b) 31 (length (get_or ys 1 [])) (get_or ys 0 [])) _ _
    (clear-spares (λ c. eqb c a) 31 0 l) (rw (same_length l) (clear-spares (λ c. eqb c b) 31 (length (get_or ys 1 [])) (both-get 0 [] none g)))
check-spares (Filter column comparison operand) left g = clear-spares (read_by column operand) 31 0 (both-get 0 [] none g)
check-spares (Keep mask) left g = λ e. refl
check-spares (Apply column transform) left g = rows-spare (apply_row column transform) (apply-spares column transform) 0 (both-get 0 [] none g)
check-spares (Group keys aggregate column) left {xs} {ys} g =
    let t = both-get 0 [] none g in
    both-spare (not_clear (in_mask keys) 31 0 (get_or ys 0 [])) (first_row (forbidden_row forbids_a column) 0 (get_or ys 0 [])) _ _
    (clear-spares (in_mask keys) 31 0 t)
    (rows-spare (forbidden_row forbids_a column) (forbidden-spares forbids_a (λ a b s. (forbids-less a b s).1) column) 0 t)
check-spares (Noise column) left g = rows-spare (noise_row column left) (noise-spares column left) 0 (both-get 0 [] none g)
