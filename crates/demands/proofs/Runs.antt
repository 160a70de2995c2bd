-- A run, case by case. Assumes nothing.
use Prim.Native.Nat.{ℕ}
use mathlib.Core.Path.{◌≡◌, refl, sym, ap, ap₂, subst, ◌∙◌}
use mathlib.Core.Bool.{Bool, true, false}
use Rattle.input.specs.Verdict.{InputVerdict, accepted, rejected}
use Rattle.demands.specs.Answers.{refused_input, refused_state}
use Rattle.demands.specs.Given.{Given, check_given, year_given}
use Rattle.demands.specs.Lent.{Lent, enough}
use Rattle.demands.specs.Memory.{ShortKeepsAll}
use Rattle.demands.specs.Monitor.{Run, ended, by_input, monitor, Begun}

pub short-keeps-all : ShortKeepsAll
unfolding monitor
short-keeps-all given lent e = rw e

pub by-input : (given : Given) (lent : Lent) → enough lent ≡ true → monitor given lent ≡ by_input (check_given given) (year_given given) given lent
unfolding monitor
by-input given lent e = rw e

pub input-run : (given : Given) (lent : Lent) (number place : ℕ) → enough lent ≡ true → check_given given ≡ rejected number place
    → monitor given lent ≡ ended (refused_input number place) lent
input-run given lent number place long e = by-input given lent long ∙ ap (λ (v : InputVerdict). by_input v (year_given given) given lent) e

pub begun-run : (year : ℕ) (given : Given) (lent : Lent) → Begun year given lent → monitor given lent ≡ by_input accepted year given lent
begun-run year given lent b = by-input given lent b.long ∙ ap₂ (λ (v : InputVerdict) (y : ℕ). by_input v y given lent) b.accepted-is b.year-is

-- what holds in each case holds of the run
module _ (year : ℕ) (given : Given) (lent : Lent) (y : year_given given ≡ year) (P : Run → Type 0) where
  pub by_cases : (enough lent ≡ false → P (ended (refused_state 1 0 0 0) lent))
      → ((number place : ℕ) → enough lent ≡ true → check_given given ≡ rejected number place → P (ended (refused_input number place) lent))
      → (Begun year given lent → P (by_input accepted year given lent)) → P (monitor given lent)
  by_cases short input begun = by_length (enough lent) refl
    where
      by-check : enough lent ≡ true → (v : InputVerdict) → check_given given ≡ v → P (monitor given lent)
      by-check long accepted e =
          let b : Begun year given lent = record { long = long; accepted-is = e; year-is = y } in
          subst P (sym (begun-run year given lent b)) (begun b)
      by-check long (rejected number place) e = subst P (sym (input-run given lent number place long e)) (input number place long e)

      by_length : (b : Bool) → enough lent ≡ b → P (monitor given lent)
      by_length true e = by-check e (check_given given) refl
      by_length false e = subst P (sym (short-keeps-all given lent e)) (short e)
