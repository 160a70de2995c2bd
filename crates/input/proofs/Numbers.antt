-- Every refusal because of the input has its number and its place. Assumes nothing.
use Prim.Native.Nat.{ℕ}
use mathlib.Core.Path.{◌≡◌, refl}
use Rattle.input.specs.Answers.{input_tells}
use Rattle.input.specs.declared.InputRefusal.{InputRefusal}
use Rattle.input.specs.declared.InputRefusal.TheVariants as input
use Rattle.input.specs.declared.PlanRefusal.TheVariants as plan

pub record Numbered (refusal : InputRefusal) : Type 1 where
  pub number : ℕ
  pub place : ℕ
  pub tells : {A : Type 0} (tell : ℕ → ℕ → A) → input_tells tell refusal ≡ tell number place

pub input-tells : (refusal : InputRefusal) → Numbered refusal
input-tells input.Container = record { number = 11; place = 0; tells = λ tell. refl }
input-tells (input.Directory place) = record { number = 12; place = place; tells = λ tell. refl }
input-tells (input.Table place) = record { number = 13; place = place; tells = λ tell. refl }
input-tells (input.Value place) = record { number = 14; place = place; tells = λ tell. refl }
input-tells (input.Label place) = record { number = 15; place = place; tells = λ tell. refl }
input-tells (input.Sheets place) = record { number = 20; place = place; tells = λ tell. refl }
input-tells (input.Plan (plan.Length place)) = record { number = 16; place = place; tells = λ tell. refl }
input-tells (input.Plan (plan.Record place)) = record { number = 17; place = place; tells = λ tell. refl }
input-tells (input.Plan (plan.Tables place)) = record { number = 18; place = place; tells = λ tell. refl }
input-tells (input.Plan (plan.Columns place)) = record { number = 19; place = place; tells = λ tell. refl }
input-tells (input.Overlay place) = record { number = 21; place = place; tells = λ tell. refl }
input-tells (input.OverlayLabel place) = record { number = 22; place = place; tells = λ tell. refl }
