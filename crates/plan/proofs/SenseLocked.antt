-- What `locked` says, and that APPLY leaves the row that it reads. Assumes nothing.
use Prim.Native.Nat.{ℕ}
use mathlib.Core.Path.{◌≡◌}
use mathlib.Core.Bool.{true, false≢true}
use mathlib.Core.List.{List, [], ◌∷◌}
use lib.Seq.{take-append_seam}
use Rattle.plan.specs.Locked.{applies_at, groups_at, any_step}
use Rattle.plan.specs.Numbers.{is_noise}
use Rattle.plan.specs.Sense.{ApplyKeeps, SomeApply, SomeGroup, SomeNoise, UnlockedMeans}
use Rattle.plan.specs.declared.Step.{Step}
use Rattle.plan.specs.declared.Step.TheVariants.{Scan, Union, Join, Filter, Keep, Apply, Group, Noise}
use Rattle.plan.proofs.Bools.{either_true}
use Rattle.plan.proofs.LockedLaws.{unlocked}

some-apply : (label : ℕ) (plan : List Step) → any_step (applies_at label) plan ≡ true → SomeApply label plan
some-apply label [] e = absurd (false≢true e)
some-apply label (step ∷ rest) e = either_true (applies_at label step) (any_step (applies_at label) rest) (here step) (λ f. SomeApply.later (some-apply label rest f)) e
  where
    here : (step : Step) → applies_at label step ≡ true → SomeApply label (step ∷ rest)
    here (Scan table) f = absurd (false≢true f)
    here Union f = absurd (false≢true f)
    here (Join left right) f = absurd (false≢true f)
    here (Filter column comparison operand) f = absurd (false≢true f)
    here (Keep mask) f = absurd (false≢true f)
    here (Apply column transform) f = SomeApply.applies f
    here (Group keys aggregate column) f = absurd (false≢true f)
    here (Noise column) f = absurd (false≢true f)

some-group : (label : ℕ) (plan : List Step) → any_step (groups_at label) plan ≡ true → SomeGroup label plan
some-group label [] e = absurd (false≢true e)
some-group label (step ∷ rest) e = either_true (groups_at label step) (any_step (groups_at label) rest) (here step) (λ f. SomeGroup.later (some-group label rest f)) e
  where
    here : (step : Step) → groups_at label step ≡ true → SomeGroup label (step ∷ rest)
    here (Scan table) f = absurd (false≢true f)
    here Union f = absurd (false≢true f)
    here (Join left right) f = absurd (false≢true f)
    here (Filter column comparison operand) f = absurd (false≢true f)
    here (Keep mask) f = absurd (false≢true f)
    here (Apply column transform) f = absurd (false≢true f)
    here (Group keys aggregate column) f = SomeGroup.groups f
    here (Noise column) f = absurd (false≢true f)

some-noise : (plan : List Step) → any_step is_noise plan ≡ true → SomeNoise plan
some-noise [] e = absurd (false≢true e)
some-noise (step ∷ rest) e = either_true (is_noise step) (any_step is_noise rest) (here step) (λ f. SomeNoise.later (some-noise rest f)) e
  where
    here : (step : Step) → is_noise step ≡ true → SomeNoise (step ∷ rest)
    here (Scan table) f = absurd (false≢true f)
    here Union f = absurd (false≢true f)
    here (Join left right) f = absurd (false≢true f)
    here (Filter column comparison operand) f = absurd (false≢true f)
    here (Keep mask) f = absurd (false≢true f)
    here (Apply column transform) f = absurd (false≢true f)
    here (Group keys aggregate column) f = absurd (false≢true f)
    here (Noise column) f = SomeNoise.noise

pub unlocked-means : UnlockedMeans
unlocked-means plan label e =
    let o = unlocked plan label e in
    (o.H, λ t. some-apply label plan (o.T t), λ a. some-group label plan (o.A a), λ n. ((o.N n).0, some-noise plan (o.N n).1))

pub apply-keeps : ApplyKeeps
apply-keeps column transform row = take-append_seam row.cells _
