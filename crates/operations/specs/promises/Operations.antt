-- Operations that exist: "k from 1 to 6" for cut.
use Rattle.std.specs.Prelude.{Bool}
use Rattle.label_discharge.specs.Discharge.{transform_exists}
use Rattle.plan.specs.Numbers.{transform_code, digits_taken}
use Rattle.plan.specs.declared.Transform.{Transform}

abbrev pub operation_fits : Transform → Bool
operation_fits transform = transform_exists (transform_code transform) (digits_taken transform)
