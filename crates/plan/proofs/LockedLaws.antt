-- What a plan locks stays locked: composition and the plan's own discharges never unlock a cell. Assumes nothing.
use Prim.Native.Nat.{ℕ, ◌<◌}
use mathlib.Core.Path.{◌≡◌, refl, sym, ap, ◌∙◌}
use mathlib.Core.Bool.{Bool, true, false, cond, not, ◌&&◌, ◌||◌}
use mathlib.Core.List.{List, [], ◌∷◌}
use lib.Dec.{lit<}
use Rattle.label_composition.specs.Composition.{composed}
use Rattle.label_discharge.specs.Discharge.{allows_transform, allows_aggregate, discharges_a, allows_noise, without_t, without_a, without_n, forbids_a, forbids_n, after_t, after_a, after_n}
use Rattle.label_words.specs.Word.{field_at, has_h, has_t, has_a, has_n}
use Rattle.plan.specs.Locked.{applies_at, groups_at, any_step, locked}
use Rattle.plan.specs.Numbers.{is_noise, transform_code, digits_taken, aggregate_code}
use Rattle.plan.specs.declared.Aggregate.{Aggregate}
use Rattle.plan.specs.declared.Aggregate.TheVariants.{Count, Sum, Min, Max, Avg}
use Rattle.plan.specs.declared.Step.{Step}
use Rattle.plan.specs.declared.Step.TheVariants.{Scan, Union, Join, Filter, Keep, Apply, Group, Noise}
use Rattle.plan.specs.declared.Transform.{Transform}
use Rattle.plan.specs.declared.Transform.TheVariants.{Add, Sub, Cut, Band}
use Rattle.label_laws.specs.Order.{AsStrict}
use Rattle.label_laws.proofs.Laws.{stages-T, stages-A, same-aggregates, same-noise-T, same-noise-A, after-T, after-A, after-N, forbids-A, forbids-N}
use Rattle.label_laws.proofs.OrderProof.{allows-less, composed-above}
use Rattle.plan.proofs.Bools.{or-false, and-true, clash, or_mono}

pub transform-code-lt : (transform : Transform) → transform_code transform < 4
transform-code-lt (Add operand) = lit< tt
transform-code-lt (Sub operand) = lit< tt
transform-code-lt (Cut digits) = lit< tt
transform-code-lt (Band width) = lit< tt

pub aggregate-code-lt : (aggregate : Aggregate) → aggregate_code aggregate < 5
aggregate-code-lt Count = lit< tt
aggregate-code-lt Sum = lit< tt
aggregate-code-lt Min = lit< tt
aggregate-code-lt Max = lit< tt
aggregate-code-lt Avg = lit< tt

-- a label that a plan does not lock, part by part
pub record Open (plan : List Step) (label : ℕ) : Type 0 where
  pub H : has_h label ≡ false
  pub T : has_t label ≡ true → any_step (applies_at label) plan ≡ true
  pub A : has_a label ≡ true → any_step (groups_at label) plan ≡ true
  pub N : has_n label ≡ true → (allows_noise label ≡ true) × (any_step is_noise plan ≡ true)

pub and-not : (a b : Bool) → (a && not b) ≡ false → a ≡ true → b ≡ true
and-not true true e t = refl
and-not true false e t = sym e
and-not false b e t = absurd (clash t refl)

-- a stage that what is made of it lacks was not there
absent : (a b : Bool) → (a ≡ true → b ≡ true) → b ≡ false → a ≡ false
absent true b f e = absurd (clash (f refl) e)
absent false b f e = refl

pub not-and : (a b : Bool) → (a ≡ true → b ≡ true) → (a && not b) ≡ false
not-and true b f = ap not (f refl)
not-and false b f = refl

-- the same of a stage that two facts unlock
and-not-both : (a b c : Bool) → (a && (not b || not c)) ≡ false → a ≡ true → (b ≡ true) × (c ≡ true)
and-not-both true true true e t = (refl, refl)
and-not-both true true false e t = absurd (clash refl e)
and-not-both true false c e t = absurd (clash refl e)
and-not-both false b c e t = absurd (clash t refl)

not-and-both : (a b c : Bool) → (a ≡ true → (b ≡ true) × (c ≡ true)) → (a && (not b || not c)) ≡ false
not-and-both true b c f = rw ((f refl).0, (f refl).1)
not-and-both false b c f = refl

module _ (plan : List Step) (label : ℕ) where
  pub unlocked : locked plan label ≡ false → Open plan label
  unfolding locked
  unlocked e =
      let n = or-false (has_h label || (has_t label && not (any_step (applies_at label) plan)) || (has_a label && not (any_step (groups_at label) plan))) (has_n label && (not (allows_noise label) || not (any_step is_noise plan))) e in
      let a = or-false (has_h label || (has_t label && not (any_step (applies_at label) plan))) (has_a label && not (any_step (groups_at label) plan)) n.0 in
      let t = or-false (has_h label) (has_t label && not (any_step (applies_at label) plan)) a.0 in
      record { H = t.0; T = and-not (has_t label) _ t.1; A = and-not (has_a label) _ a.1; N = and-not-both (has_n label) _ _ n.1 }

  pub not-locked : Open plan label → locked plan label ≡ false
  unfolding locked
  not-locked o =
      rw (o.H, not-and (has_t label) (any_step (applies_at label) plan) o.T, not-and (has_a label) (any_step (groups_at label) plan) o.A, not-and-both (has_n label) (allows_noise label) (any_step is_noise plan) o.N)

-- a clear cell is not locked
pub clear-open : (plan : List Step) → locked plan 0 ≡ false
unfolding locked field_at
clear-open plan = refl

any-mono : (f g : Step → Bool) → ((step : Step) → f step ≡ true → g step ≡ true) → (plan : List Step) → any_step f plan ≡ true → any_step g plan ≡ true
any-mono f g h [] e = e
any-mono f g h (step ∷ rest) e = or_mono (f step) (any_step f rest) (g step) (any_step g rest) (h step) (any-mono f g h rest) e

-- a label that allows no more than another unlocks no more steps
applies-mono : (l m : ℕ) → ((operation digits : ℕ) → operation < 4 → allows_transform l operation digits ≡ true → allows_transform m operation digits ≡ true)
    → (step : Step) → applies_at l step ≡ true → applies_at m step ≡ true
applies-mono l m h (Scan table) e = e
applies-mono l m h Union e = e
applies-mono l m h (Join left right) e = e
applies-mono l m h (Filter column comparison operand) e = e
applies-mono l m h (Keep mask) e = e
applies-mono l m h (Apply column transform) e = h (transform_code transform) (digits_taken transform) (transform-code-lt transform) e
applies-mono l m h (Group keys aggregate column) e = e
applies-mono l m h (Noise column) e = e

groups-mono : (l m : ℕ) → ((operation : ℕ) → operation < 5 → allows_aggregate l operation ≡ true → allows_aggregate m operation ≡ true)
    → (step : Step) → groups_at l step ≡ true → groups_at m step ≡ true
groups-mono l m h (Scan table) e = e
groups-mono l m h Union e = e
groups-mono l m h (Join left right) e = e
groups-mono l m h (Filter column comparison operand) e = e
groups-mono l m h (Keep mask) e = e
groups-mono l m h (Apply column transform) e = e
groups-mono l m h (Group keys aggregate column) e = h (aggregate_code aggregate) (aggregate-code-lt aggregate) e
groups-mono l m h (Noise column) e = e

module _ (plan : List Step) where
  -- a label is locked if a less strict one is
  stricter-locked : {a b : ℕ} → AsStrict a b → locked plan b ≡ false → locked plan a ≡ false
  unfolding allows_aggregate
  stricter-locked {a} {b} s e =
      let o = unlocked plan b e in
      not-locked plan a record {
        H = absent (has_h a) (has_h b) s.H o.H;
        T = λ t. any-mono (applies_at b) (applies_at a) (applies-mono b a (λ o d h. (allows-less a b s).0 t o d h)) plan (o.T (s.T t));
        A = λ t. any-mono (groups_at b) (groups_at a) (groups-mono b a (s.aggregates t)) plan (o.A (s.A t));
        N = λ t. let n = o.N (s.N t) in ((allows-less a b s).2 t n.0, n.1);
      }

  -- what is composed is locked if the left label is, and if the right one is
  pub composed-left : (a b : ℕ) → locked plan (composed a b) ≡ false → locked plan a ≡ false
  composed-left a b = stricter-locked (composed-above a b).0

  pub composed-right : (a b : ℕ) → locked plan (composed a b) ≡ false → locked plan b ≡ false
  composed-right a b = stricter-locked (composed-above a b).1

  -- the plan's own operations leave a locked label locked
  pub transform-locked : (transform : Transform) (label : ℕ)
      → (allows_transform label (transform_code transform) (digits_taken transform) ≡ true → any_step (applies_at label) plan ≡ true)
      → locked plan (after_t label (transform_code transform) (digits_taken transform)) ≡ false → locked plan label ≡ false
  transform-locked transform label used e =
      go (not (has_h label) && has_t label && allows_transform label (transform_code transform) (digits_taken transform)) refl
      (rw (after-T label (transform_code transform) (digits_taken transform)) at e)
    where
      go : (b : Bool) → (not (has_h label) && has_t label && allows_transform label (transform_code transform) (digits_taken transform)) ≡ b
          → locked plan (cond b (without_t label) label) ≡ false → locked plan label ≡ false
      go true t e =
          let o = unlocked plan (without_t label) e in
          let l = stages-T label in
          not-locked plan label record {
            H = sym l.H ∙ o.H;
            T = λ _. used (and-true (not (has_h label) && has_t label) _ t).1;
            A = λ a. any-mono (groups_at (without_t label)) (groups_at label) (groups-mono (without_t label) label (λ o h g. sym (same-aggregates label o h) ∙ g)) plan (o.A (l.A ∙ a));
            N = λ n. let m = o.N (l.N ∙ n) in (sym (same-noise-T label) ∙ m.0, m.1);
          }
      go false t e = e

  pub aggregate-locked : (aggregate : Aggregate) (label rows : ℕ)
      → (allows_aggregate label (aggregate_code aggregate) ≡ true → any_step (groups_at label) plan ≡ true)
      → forbids_a label ≡ false → locked plan (after_a label (aggregate_code aggregate) rows) ≡ false → locked plan label ≡ false
  aggregate-locked aggregate label rows used free e =
      go (not (has_h label || has_t label) && has_a label && discharges_a label (aggregate_code aggregate) rows) refl
      (rw (after-A label (aggregate_code aggregate) rows) at e)
    where
      go : (b : Bool) → (not (has_h label || has_t label) && has_a label && discharges_a label (aggregate_code aggregate) rows) ≡ b
          → locked plan (cond b (without_a label) label) ≡ false → locked plan label ≡ false
      go true t e =
          let o = unlocked plan (without_a label) e in
          let l = stages-A label in
          let below = or-false (has_h label) (has_t label) (sym (forbids-A label) ∙ free) in
          let allowed = (and-true (not (has_h label || has_t label) && has_a label) _ t).1 in
          not-locked plan label record {
            H = below.0;
            T = λ h. absurd (clash h below.1);
            A = λ _. used (and-true (allows_aggregate label (aggregate_code aggregate)) _ allowed).0;
            N = λ n. let m = o.N (l.N ∙ n) in (sym (same-noise-A label) ∙ m.0, m.1);
          }
      go false t e = e

  -- noise forbidden on no stage above N: what it leaves of a locked label is locked, since the plan has a NOISE and the label allowed none
  pub noise-locked : (label : ℕ) → any_step is_noise plan ≡ true → forbids_n label ≡ false → locked plan (after_n label) ≡ false → locked plan label ≡ false
  noise-locked label used free e = go (not (forbids_n label) && has_n label && allows_noise label) refl (rw (after-N label) at e)
    where
      go : (b : Bool) → (not (forbids_n label) && has_n label && allows_noise label) ≡ b → locked plan (cond b (without_n label) label) ≡ false → locked plan label ≡ false
      go true t e =
          let n = or-false (has_h label || has_t label) (has_a label) (sym (forbids-N label) ∙ free) in
          let above = or-false (has_h label) (has_t label) n.0 in
          not-locked plan label record {
            H = above.0;
            T = λ h. absurd (clash h above.1);
            A = λ h. absurd (clash h n.1);
            N = λ _. ((and-true (not (forbids_n label) && has_n label) _ t).1, used);
          }
      go false t e = e
