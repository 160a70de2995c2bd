-- GROUP's aggregates of values, and with an OVER among them. Assumes nothing.
use mathlib.Core.Path.{◌≡◌, refl, sym, ap, ◌∙◌}
use mathlib.Core.Bool.{Bool, true, false, and-false}
use mathlib.Core.List.{List, [], ◌∷◌, ◌++◌, Memᴰ}
use mathlib.Core.Logic.{⊎_elim}
use native.Mathlib.Omega.{arith}
use lib.IntN.{ℤ}
use lib.ListN.{length}
use lib.Signed.{le_z, lt_z, ◌≤ℤ◌, <ℤ-≤ℤ_trans, clash_ℤ, ≤ℤ_refl}
use borrow.Author.Tests.{not-false}
use Rattle.aggregate.specs.Aggregate.{exact_sum, all_in_range}
use Rattle.aggregate.specs.Sentences.{Chosen}
use Rattle.aggregate.proofs.SentencesProof.{average-is-nearest, smaller-is-least, larger-is-greatest}
use Rattle.rounding.specs.Rounding.{average}
use Rattle.plan.specs.Group.{folded_from, folded, aggregate_value}
use Rattle.plan.specs.Table.{Each}
use Rattle.plan.specs.Sense.Aggregates.{AggregatesExact, CountIsRows, AggregatesOver}
use Rattle.plan.specs.declared.Aggregate.TheVariants.{Count, Sum, Min, Max, Avg}
use Rattle.value.specs.Range.{in_range, OVER, settled}
use Rattle.value.proofs.Integers.{so, le_z_not_lt_z}
use Rattle.value.proofs.Laws.Range.{over-out}
use Rattle.value.proofs.SentencesProof.{settles}

all_in : (values : List ℤ) → Each (λ v. in_range v ≡ true) values → all_in_range values ≡ true
unfolding all_in_range
all_in [] p = refl
all_in (v ∷ rest) p = rw p.0 (all_in rest p.1)

le_trans : (a b c : ℤ) → a ≤ℤ b → b ≤ℤ c → a ≤ℤ c
le_trans a b c h k = go (le_z a c) refl
  where
    go : (t : Bool) → le_z a c ≡ t → a ≤ℤ c
    go true e = record { le = so e }
    go false e = clash_ℤ (<ℤ-≤ℤ_trans (record { lt = so (not-false (lt_z c a) (sym (le_z_not_lt_z a c) ∙ e)) }) h) k

-- ---- one of the values, taken two at a time

module _ {Before : ℤ → ℤ → Type 0} {choice : ℤ → ℤ → ℤ} (same : (a : ℤ) → Before a a) (trans : (x y z : ℤ) → Before x y → Before y z → Before x z)
    (c : Chosen Before choice) where
  record Best (values : List ℤ) (best : ℤ) : Type 0 where
    one : Memᴰ best values
    first : Each (Before best) values

  in-range : (a b : ℤ) → in_range a ≡ true → in_range b ≡ true → in_range (choice a b) ≡ true
  in-range a b e f = ⊎_elim (λ q. ap in_range q ∙ e) (λ q. ap in_range q ∙ f) (c.one a b e f)

  best-from : (v : ℤ) (rest : List ℤ) → in_range v ≡ true → Each (λ w. in_range w ≡ true) rest → Best (v ∷ rest) (folded_from choice v rest)
  best-from v [] e p = record { one = Memᴰ.head refl; first = (same v, tt) }
  best-from v (w ∷ rest) e p =
      let b = best-from (choice v w) rest (in-range v w e p.0) p.1 in
      record { one = among b.one; first = (trans _ (choice v w) v b.first.0 (c.left v w e p.0), (trans _ (choice v w) w b.first.0 (c.right v w e p.0), b.first.1)) }
    where
      among : {x : ℤ} → Memᴰ x (choice v w ∷ rest) → Memᴰ x (v ∷ (w ∷ rest))
      among (Memᴰ.head q) = ⊎_elim (λ r. Memᴰ.head (q ∙ r)) (λ r. Memᴰ.tail (Memᴰ.head (q ∙ r))) (c.one v w e p.0)
      among (Memᴰ.tail m) = Memᴰ.tail (Memᴰ.tail m)

-- OVER stays OVER
module _ {Before : ℤ → ℤ → Type 0} {choice : ℤ → ℤ → ℤ} (c : Chosen Before choice) where
  over-from : (rest : List ℤ) → folded_from choice OVER rest ≡ OVER
  over-from [] = refl
  over-from (w ∷ rest) = ap (λ (x : ℤ). folded_from choice x rest) (c.over-left OVER w over-out) ∙ over-from rest

  over-later : (v : ℤ) (earlier later : List ℤ) → folded_from choice v (earlier ++ (OVER ∷ later)) ≡ OVER
  over-later v [] later = ap (λ (x : ℤ). folded_from choice x later) (c.over-right v OVER over-out) ∙ over-from later
  over-later v (w ∷ earlier) later = over-later (choice v w) earlier later

  over-folded : (earlier later : List ℤ) → folded choice (earlier ++ (OVER ∷ later)) ≡ OVER
  over-folded [] later = over-from later
  over-folded (v ∷ earlier) later = over-later v earlier later

pub aggregates-exact : AggregatesExact
aggregates-exact [] h p = absurd (omega arith)
aggregates-exact (v ∷ rest) h p =
    let e = all_in (v ∷ rest) p in
    let sum : aggregate_value Sum (v ∷ rest) ≡ settled (exact_sum (v ∷ rest)) = cc in
    let avg : aggregate_value Avg (v ∷ rest) ≡ average (exact_sum (v ∷ rest)) (length (v ∷ rest)) = cc in
    let min = best-from ≤ℤ_refl le_trans smaller-is-least v rest p.0 p.1 in
    let max = best-from ≤ℤ_refl (λ a b c h k. le_trans c b a k h) larger-is-greatest v rest p.0 p.1 in
    record {
      sum = rw sum (settles (exact_sum (v ∷ rest)));
      min-one = min.one;
      min-least = min.first;
      max-one = max.one;
      max-greatest = max.first;
      avg = rw avg (average-is-nearest (v ∷ rest) e h);
    }

pub count-is-rows : CountIsRows
count-is-rows values = refl

not-all : (earlier later : List ℤ) → all_in_range (earlier ++ (OVER ∷ later)) ≡ false
unfolding all_in_range
not-all [] later = rw over-out
not-all (v ∷ earlier) later = rw (not-all earlier later) (and-false (in_range v))

pub aggregates-over : AggregatesOver
aggregates-over Count earlier later n = absurd (n refl)
aggregates-over Sum earlier later n = rw (not-all earlier later)
aggregates-over Min earlier later n = over-folded smaller-is-least earlier later
aggregates-over Max earlier later n = over-folded larger-is-greatest earlier later
aggregates-over Avg earlier later n = rw (not-all earlier later)
