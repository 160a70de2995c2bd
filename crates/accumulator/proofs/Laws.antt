-- The laws of accumulators: that of a list of values gives their aggregate. Assumes nothing.
use Prim.Native.Nat.{◌+◌, ◌≤◌}
use mathlib.Core.Path.{◌≡◌, refl, sym, ap, ◌∙◌}
use mathlib.Core.Bool.{Bool, true, false, cond, ◌&&◌, and-true}
use mathlib.Core.List.{List, [], ◌∷◌, foldl}
use native.Mathlib.Omega.{arith}
use lib.IntN.{ℤ, pos}
use lib.ListN.{length}
use borrow.Author.Tests.{lt-ltb}
use Rattle.accumulator.specs.promises.Accumulators.{one_more, single, with_value, with_values, aggregate_of}
use Rattle.accumulator.specs.declared.Accumulator.{Accumulator}
use Rattle.plan.specs.Group.{folded_from, aggregate_value}
use Rattle.plan.specs.declared.Aggregate.{Aggregate}
use Rattle.plan.specs.declared.Aggregate.TheVariants.{Count, Sum, Min, Max, Avg}
use Rattle.aggregate.specs.Aggregate.{smaller, larger, accumulated, exact_sum, all_in_range}
use Rattle.rounding.specs.Rounding.{average}
use Rattle.value.specs.Range.{in_range, OVER, settled}
use Rattle.aggregate.proofs.Laws.{accumulated-all}

-- the parts, each by itself
pub rows-from : (s : Accumulator) (vs : List ℤ) → s.rows + length vs ≤ 256 → (with_values s vs).rows ≡ s.rows + length vs
rows-from s [] h = omega arith
rows-from s (v ∷ vs) h =
    let more : one_more s.rows ≡ s.rows + 1 = rw (lt-ltb s.rows 256 (omega arith)) in
    rows-from (with_value s v) vs (omega (arith, more)) ∙ omega (arith, more)

exact-from : (s : Accumulator) (vs : List ℤ) → (with_values s vs).exact ≡ (s.exact && all_in_range vs)
unfolding all_in_range
exact-from s [] = sym (and-true s.exact)
exact-from s (v ∷ vs) = exact-from (with_value s v) vs ∙ and_assoc s.exact (in_range v) (all_in_range vs)
  where
    and_assoc : (a b c : Bool) → ((a && b) && c) ≡ (a && (b && c))
    and_assoc true b c = refl
    and_assoc false b c = refl

total-from : (s : Accumulator) (vs : List ℤ) → (with_values s vs).total ≡ foldl accumulated s.total vs
total-from s [] = refl
total-from s (v ∷ vs) = total-from (with_value s v) vs

least-from : (s : Accumulator) (vs : List ℤ) → (with_values s vs).least ≡ folded_from smaller s.least vs
least-from s [] = refl
least-from s (v ∷ vs) = least-from (with_value s v) vs

most-from : (s : Accumulator) (vs : List ℤ) → (with_values s vs).most ≡ folded_from larger s.most vs
most-from s [] = refl
most-from s (v ∷ vs) = most-from (with_value s v) vs

module _ (v : ℤ) (vs : List ℤ) (few : length (v ∷ vs) ≤ 256) where
  as_many : (with_values (single v) vs).rows ≡ length (v ∷ vs)
  as_many = rows-from (single v) vs (omega arith) ∙ omega arith

  exact-is : (with_values (single v) vs).exact ≡ all_in_range (v ∷ vs)
  unfolding all_in_range
  exact-is = exact-from (single v) vs

  -- the running sum, where no value is out of range
  total-is : (f : ℤ → ℤ) → cond (all_in_range (v ∷ vs)) (f (with_values (single v) vs).total) OVER ≡ cond (all_in_range (v ∷ vs)) (f (exact_sum (v ∷ vs))) OVER
  total-is f = go (all_in_range (v ∷ vs)) refl
    where
      go : (b : Bool) → all_in_range (v ∷ vs) ≡ b → cond b (f (with_values (single v) vs).total) OVER ≡ cond b (f (exact_sum (v ∷ vs))) OVER
      go true e = ap f (total-from (single v) vs ∙ accumulated-all (v ∷ vs) e few)
      go false e = refl

  pub value-is : (aggregate : Aggregate) → aggregate_of aggregate (with_values (single v) vs) ≡ aggregate_value aggregate (v ∷ vs)
  value-is Count = ap pos as_many
  value-is Sum = rw exact-is (total-is settled)
  value-is Min = least-from (single v) vs
  value-is Max = most-from (single v) vs
  value-is Avg = rw (exact-is, as_many) (total-is (λ t. average t (length (v ∷ vs))))
