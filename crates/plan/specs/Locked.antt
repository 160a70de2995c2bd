-- "Locked, for demand 3": document 01's word for a cell whose value the plan can never bring out; #102 moves its sentence on N.
use Rattle.std.specs.Prelude.{ℕ, Bool, false, not, ◌&&◌, ◌||◌, List, [], ◌∷◌}
use Rattle.label_discharge.specs.Discharge.{allows_transform, allows_aggregate, allows_noise}
use Rattle.label_words.specs.Word.{has_h, has_t, has_a, has_n}
use Rattle.plan.specs.Numbers.{is_noise, transform_code, digits_taken, aggregate_code}
use Rattle.plan.specs.declared.Step.{Step}
use Rattle.plan.specs.declared.Step.TheVariants.{Scan, Union, Join, Filter, Keep, Apply, Group, Noise}

-- the step is an APPLY with an operation that the label allows (cut: enough digits)
abbrev pub applies_at : ℕ → Step → Bool
applies_at label (Scan table) = false
applies_at label Union = false
applies_at label (Join left right) = false
applies_at label (Filter column comparison operand) = false
applies_at label (Keep mask) = false
applies_at label (Apply column transform) = allows_transform label (transform_code transform) (digits_taken transform)
applies_at label (Group keys aggregate column) = false
applies_at label (Noise column) = false

-- the step is a GROUP with an aggregate that the label allows; "a group minimum plays no part in it"
abbrev pub groups_at : ℕ → Step → Bool
groups_at label (Scan table) = false
groups_at label Union = false
groups_at label (Join left right) = false
groups_at label (Filter column comparison operand) = false
groups_at label (Keep mask) = false
groups_at label (Apply column transform) = false
groups_at label (Group keys aggregate column) = allows_aggregate label (aggregate_code aggregate)
groups_at label (Noise column) = false

abbrev pub any_step : (Step → Bool) → List Step → Bool
any_step test [] = false
any_step test (step ∷ rest) = test step || any_step test rest

-- "H is present; or T is present and no APPLY has an allowed operation ..; or A is present and no GROUP has an allowed aggregate"; and #102: "A
-- stage N by itself makes a label locked only if its noise bit is off or the plan has no NOISE."
unfoldable pub locked : List Step → ℕ → Bool
locked plan label =
    has_h label || (has_t label && not (any_step (applies_at label) plan)) || (has_a label && not (any_step (groups_at label) plan))
    || (has_n label && (not (allows_noise label) || not (any_step is_noise plan)))
