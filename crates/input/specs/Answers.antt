-- "Refused because of the input (place: a byte offset)": the number and the place of each answer of the input checks.
use Rattle.std.specs.Prelude.{ℕ, Result, Ok, Err}
use Rattle.input.specs.Verdict.{InputVerdict, accepted, rejected}
use Rattle.input.specs.declared.InputRefusal.TheVariants as input
use Rattle.input.specs.declared.InputRefusal.{InputRefusal}
use Rattle.input.specs.declared.PlanRefusal.TheVariants as plan
use Rattle.input.specs.declared.PlanRefusal.{PlanRefusal}

-- the number and the place of each refusal because of the plan
abbrev pub plan_tells : {A : Type 0} → (ℕ → ℕ → A) → PlanRefusal → A
plan_tells tell (plan.Length place) = tell 16 place
plan_tells tell (plan.Record place) = tell 17 place
plan_tells tell (plan.Tables place) = tell 18 place
plan_tells tell (plan.Columns place) = tell 19 place

-- and of each refusal because of the input; #106: 21 and 22 have their place in the overlay
abbrev pub input_tells : {A : Type 0} → (ℕ → ℕ → A) → InputRefusal → A
input_tells tell input.Container = tell 11 0
input_tells tell (input.Directory place) = tell 12 place
input_tells tell (input.Table place) = tell 13 place
input_tells tell (input.Value place) = tell 14 place
input_tells tell (input.Label place) = tell 15 place
input_tells tell (input.Sheets place) = tell 20 place
input_tells tell (input.Plan refusal) = plan_tells tell refusal
input_tells tell (input.Overlay place) = tell 21 place
input_tells tell (input.OverlayLabel place) = tell 22 place

-- what the answers of the checks say
abbrev pub plan_refusal_says : PlanRefusal → InputVerdict
plan_refusal_says refusal = plan_tells rejected refusal

abbrev pub input_refusal_says : InputRefusal → InputVerdict
input_refusal_says refusal = input_tells rejected refusal

abbrev pub plan_says : Result (Unit {0}) PlanRefusal → InputVerdict
plan_says (Ok _) = accepted
plan_says (Err refusal) = plan_refusal_says refusal

abbrev pub input_says : Result (Unit {0}) InputRefusal → InputVerdict
input_says (Ok _) = accepted
input_says (Err refusal) = input_refusal_says refusal
