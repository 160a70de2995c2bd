-- Every APPLY of a plan names an operation that exists, and every KEEP keeps some column. Assumes nothing.
use Prim.Native.Nat.{ℕ, zero, suc, ◌+◌, ◌-◌, ◌^◌}
use mathlib.Core.Path.{◌≡◌, refl}
use mathlib.Core.Bool.{Bool, true, false, cond, not, ◌&&◌, and-eq-true_iff}
use mathlib.Core.List.{List}
use lib.Dec.{eqb, leb, ltb}
use Rattle.std.specs.Prelude.{Option, Some, None}
use Rattle.accepted.specs.Accepted.{operation_exists, OperationsExist}
use Rattle.container.specs.Contents.{put, steps_from, plan_of}
use Rattle.label_discharge.specs.Discharge.{transform_exists}
use Rattle.layout.specs.Layout.{part_of}
use Rattle.plan.specs.Table.{Each}
use Rattle.plan.specs.declared.Step.{Step}
use Rattle.plan.specs.declared.Step.TheVariants.{Scan, Union, Join, Filter, Keep, Apply, Group, Noise}
use Rattle.plan.specs.declared.Transform.TheVariants.{Add, Sub, Cut, Band}
use Rattle.plan_part.specs.PlanPart.{step_count}
use Rattle.records.specs.Record.{fields_at, operand_written, operand_of, amount_fits, zeros, when, comparison_of, aggregate_of, apply_by, by_kind, step_of}
use Rattle.records.specs.declared.Fields.{Fields}
use Rattle.value.specs.Pattern.{signed_of}

-- a step found has its operation
abbrev Has : Option Step → Type 0
Has (Some step) = operation_exists step ≡ true
Has None = Unit

-- of two, by a test
has-cond : (b : Bool) (x y : Option Step) → Has x → Has y → Has (cond b x y)
has-cond true x y h k = h
has-cond false x y h k = k

has-when : (b : Bool) (step : Step) → (b ≡ true → operation_exists step ≡ true) → Has (when b step)
has-when true step h = h refl
has-when false step h = tt

cut-exists : (f : Fields) → amount_fits 6 f ≡ true → operation_exists (Apply f.a (Cut f.constant)) ≡ true
unfolding amount_fits transform_exists
cut-exists f e =
    let a = (and-eq-true_iff (eqb f.c 0 && eqb f.d 0 && leb 1 f.constant) (leb f.constant 6)).0 e in
    let b = (and-eq-true_iff (eqb f.c 0 && eqb f.d 0) (leb 1 f.constant)).0 a.0 in
    rw (b.1, a.1)

apply-has : (b : ℕ) (f : Fields) → Has (apply_by b f)
unfolding transform_exists
apply-has b f =
    has-cond (eqb b 0) _ _ (has-when (operand_written f) (Apply f.a (Add (operand_of f))) (λ _. refl))
    (has-cond (eqb b 1) _ _ (has-when (operand_written f) (Apply f.a (Sub (operand_of f))) (λ _. refl))
    (has-cond (eqb b 2) _ _ (has-when (amount_fits 6 f) (Apply f.a (Cut f.constant)) (cut-exists f))
    (has-cond (eqb b 3) _ _ (has-when (amount_fits (2 ^ 47 - 1) f) (Apply f.a (Band (signed_of f.constant))) (λ _. refl)) tt)))

kind-has : (kind : ℕ) (f : Fields) → Has (by_kind kind f)
kind-has kind f =
    has-cond (eqb kind 1) _ _ (has-when (zeros (f.b + f.c + f.d) f.constant) (Scan f.a) (λ _. refl))
    (has-cond (eqb kind 2) _ _ (has-when (zeros (f.a + f.b + f.c + f.d) f.constant) Union (λ _. refl))
    (has-cond (eqb kind 3) _ _ (has-when (zeros (f.c + f.d) f.constant) (Join f.a f.b) (λ _. refl))
    (has-cond (eqb kind 4) _ _ (has-when (ltb f.b 6 && operand_written f) (Filter f.a (comparison_of f.b) (operand_of f)) (λ _. refl))
    (has-cond (eqb kind 5) _ _ (has-when (not (eqb f.a 0) && zeros (f.b + f.c + f.d) f.constant) (Keep f.a) (λ e. ((and-eq-true_iff (not (eqb f.a 0)) (zeros (f.b + f.c + f.d) f.constant)).0 e).0))
    (has-cond (eqb kind 6) _ _ (apply-has f.b f)
    (has-cond (eqb kind 7) _ _ (has-when (ltb f.b 5 && zeros f.d f.constant) (Group f.a (aggregate_of f.b) f.c) (λ _. refl))
    (has-cond (eqb kind 8) _ _ (has-when (zeros (f.b + f.c + f.d) f.constant) (Noise f.a) (λ _. refl)) tt)))))))

step-has : (f : Fields) → Has (step_of f)
unfolding step_of
step-has f = has-cond (eqb f.spare 0) (by_kind f.kind f) None (kind-has f.kind f) tt

abbrev Exist : List Step → Type 0
Exist = Each (λ step. operation_exists step ≡ true)

put-exist : (f : Option Step) (later : List Step) → Has f → Exist later → Exist (put f later)
put-exist (Some step) later h e = (h, e)
put-exist None later h e = e

steps-exist : (part : List ℕ) (step more : ℕ) → Exist (steps_from part step more)
steps-exist part step zero = tt
steps-exist part step (suc more) = put-exist (step_of (fields_at part step)) _ (step-has (fields_at part step)) (steps-exist part (suc step) more)

pub operations-exist : OperationsExist
unfolding plan_of
operations-exist bytes e = steps-exist (part_of bytes 0) 0 (step_count (part_of bytes 0))
