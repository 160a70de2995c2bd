-- The floor changes nothing that `locked` looks at: no stage, no allowed operation, no digits. Assumes nothing.
use Prim.Native.Nat.{ℕ, ◌+◌, ◌<◌}
use mathlib.Core.Path.{◌≡◌, refl, sym, ap, ap₂, ◌∙◌}
use mathlib.Core.Bool.{Bool, ◌||◌}
use mathlib.Core.List.{List, [], ◌∷◌}
use lib.Dec.{lit<}
use Rattle.floor_laws.proofs.AboutFloor.{floor-keeps}
use Rattle.label_discharge.specs.Discharge.{allows_transform, allows_aggregate, allows_noise}
use Rattle.label_floor.specs.Floor.{floored}
use Rattle.label_words.specs.Word.{field_at, bit_at}
use Rattle.label_words.proofs.Packed.{bit-of-field}
use Rattle.plan.specs.Locked.{applies_at, groups_at, any_step, locked}
use Rattle.plan.specs.Numbers.{transform_code, aggregate_code}
use Rattle.plan.specs.declared.Step.{Step}
use Rattle.plan.specs.declared.Step.TheVariants.{Scan, Union, Join, Filter, Keep, Apply, Group, Noise}
use Rattle.plan.proofs.LockedLaws.{transform-code-lt, aggregate-code-lt}
use Rattle.floor_demands.specs.Years.{LockedUnderYears}

any-same : (f g : Step → Bool) → ((step : Step) → f step ≡ g step) → (plan : List Step) → any_step f plan ≡ any_step g plan
any-same f g same [] = refl
any-same f g same (step ∷ rest) = ap₂ ◌||◌ (same step) (any-same f g same rest)

module _ (year label : ℕ) where
  -- the bits of a field that stays
  bit-same : (at width i : ℕ) → field_at (floored year label) at width ≡ field_at label at width → i < width → bit_at (floored year label) (at + i) ≡ bit_at label (at + i)
  bit-same at width i e h = sym (bit-of-field (floored year label) at width i h) ∙ ap (λ (f : ℕ). bit_at f i) e ∙ bit-of-field label at width i h

  stage-same : (i : ℕ) → i < 4 → bit_at (floored year label) (28 + i) ≡ bit_at label (28 + i)
  stage-same i h = bit-same 28 4 i (floor-keeps year label).stages h

  applies-same : (step : Step) → applies_at (floored year label) step ≡ applies_at label step
  unfolding allows_transform
  applies-same (Scan table) = refl
  applies-same Union = refl
  applies-same (Join left right) = refl
  applies-same (Filter column comparison operand) = refl
  applies-same (Keep mask) = refl
  applies-same (Apply column transform) =
      rw (bit-same 24 4 (transform_code transform) (floor-keeps year label).transforms (transform-code-lt transform), (floor-keeps year label).digits)
  applies-same (Group keys aggregate column) = refl
  applies-same (Noise column) = refl

  groups-same : (step : Step) → groups_at (floored year label) step ≡ groups_at label step
  unfolding allows_aggregate
  groups-same (Scan table) = refl
  groups-same Union = refl
  groups-same (Join left right) = refl
  groups-same (Filter column comparison operand) = refl
  groups-same (Keep mask) = refl
  groups-same (Apply column transform) = refl
  groups-same (Group keys aggregate column) = bit-same 16 5 (aggregate_code aggregate) (floor-keeps year label).aggregates (aggregate-code-lt aggregate)
  groups-same (Noise column) = refl

pub locked-under-years : LockedUnderYears
unfolding locked allows_noise
locked-under-years plan year label =
    rw (
      stage-same year label 3 (lit< tt),
      stage-same year label 2 (lit< tt),
      stage-same year label 1 (lit< tt),
      stage-same year label 0 (lit< tt),
      any-same _ _ (applies-same year label) plan,
      any-same _ _ (groups-same year label) plan,
      (floor-keeps year label).noise,
    )
