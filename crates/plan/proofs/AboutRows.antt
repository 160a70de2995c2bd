-- FILTER keeps the rows that pass, and JOIN makes the pairs that match, in order. Assumes nothing.
use Prim.Native.Nat.{ℕ}
use mathlib.Core.Path.{◌≡◌, refl, sym, ap, ap₂, ◌∙◌}
use mathlib.Core.Bool.{Bool, true, false, cond}
use mathlib.Core.List.{List, [], ◌∷◌, ◌++◌, map}
use mathlib.Core.Logic.{◌⊎◌, ◌↔◌, inl, inr}
use lib.IntN.{ℤ}
use Rattle.plan.specs.Filter.{holds, passes, passing, filtered}
use Rattle.plan.specs.Join.{matches, joined_row, joined_to, joined_rows, joined}
use Rattle.plan.specs.Operands.{operand_value}
use Rattle.plan.specs.Sense.Rows.{Sifted, keeps, drops, SiftedOnce, Holds, PassesMeans, FilterSifts, MatchesMeans, pairs, JoinSifts}
use Rattle.plan.specs.Steps.{make}
use Rattle.plan.specs.Table.{Row, cell_at, top, second, Each}
use Rattle.plan.specs.declared.Comparison.{Comparison}
use Rattle.plan.specs.declared.Comparison.TheVariants.{Equal, Unequal, Less, AtMost, Greater, AtLeast}
use Rattle.value.specs.Range.{in_range}
use Rattle.comparison.proofs.SentencesProof.{comparisons-mean, over-is-false}
use Rattle.plan.proofs.Bools.{clash}

module _ {A : Type 0} {test : A → Bool} where
  pub sifted-append : {xs ys us vs : List A} → Sifted test xs us → Sifted test ys vs → Sifted test (xs ++ ys) (us ++ vs)
  sifted-append Sifted.end t = t
  sifted-append (keeps e s) t = keeps e (sifted-append s t)
  sifted-append (drops e s) t = drops e (sifted-append s t)

  -- what is kept passes
  pub sifted-each : {xs us : List A} → Sifted test xs us → Each (λ x. test x ≡ true) xs
  sifted-each Sifted.end = tt
  sifted-each (keeps e s) = (e, sifted-each s)
  sifted-each (drops e s) = sifted-each s

  once : {xs ys us : List A} → Sifted test xs us → Sifted test ys us → xs ≡ ys
  once Sifted.end Sifted.end = refl
  once (keeps {x} e s) (keeps f t) = ap (λ (l : List A). x ∷ l) (once s t)
  once (keeps e s) (drops f t) = absurd (clash e f)
  once (drops e s) (keeps f t) = absurd (clash f e)
  once (drops e s) (drops f t) = once s t

pub sifted-once : SiftedOnce
sifted-once A test all kept other s t = once s t

pub passing-sifts : (pass : Row → Bool) (rows : List Row) → Sifted pass (passing pass rows) rows
passing-sifts pass [] = Sifted.end
passing-sifts pass (row ∷ rest) = kept_or_not (pass row) refl (passing-sifts pass rest)
  where
    kept_or_not : (b : Bool) → pass row ≡ b → Sifted pass (passing pass rest) rest → Sifted pass (cond b (row ∷ passing pass rest) (passing pass rest)) (row ∷ rest)
    kept_or_not true e s = keeps e s
    kept_or_not false e s = drops e s

-- a test that is false with OVER, and says so much of values
tells : {H : Type 0} (a b : ℤ) (test : Bool) → ((in_range a ≡ false) ⊎ (in_range b ≡ false) → test ≡ false)
    → (in_range a ≡ true → in_range b ≡ true → (test ≡ true) ↔ H) → (test ≡ true) ↔ ((in_range a ≡ true) × (in_range b ≡ true) × H)
tells {H} a b test over values = go (in_range a) (in_range b) refl refl
  where
    go : (s t : Bool) → in_range a ≡ s → in_range b ≡ t → (test ≡ true) ↔ ((in_range a ≡ true) × (in_range b ≡ true) × H)
    go true true e f = (λ x. (e, f, (values e f).0 x), λ y. (values e f).1 y.2)
    go true false e f = (λ x. absurd (clash x (over (inr f))), λ y. absurd (clash y.1 f))
    go false t e f = (λ x. absurd (clash x (over (inl e))), λ y. absurd (clash y.0 e))

holds-means : (comparison : Comparison) (a b : ℤ) → (holds comparison a b ≡ true) ↔ ((in_range a ≡ true) × (in_range b ≡ true) × Holds comparison a b)
holds-means Equal a b = tells a b _ (λ o. (over-is-false a b o).equal) (λ e f. (comparisons-mean a b e f).equal)
holds-means Unequal a b = tells a b _ (λ o. (over-is-false a b o).unequal) (λ e f. (comparisons-mean a b e f).unequal)
holds-means Less a b = tells a b _ (λ o. (over-is-false a b o).less) (λ e f. (comparisons-mean a b e f).less)
holds-means AtMost a b = tells a b _ (λ o. (over-is-false a b o).at_most) (λ e f. (comparisons-mean a b e f).at_most)
holds-means Greater a b = tells a b _ (λ o. (over-is-false a b o).greater) (λ e f. (comparisons-mean a b e f).greater)
holds-means AtLeast a b = tells a b _ (λ o. (over-is-false a b o).at_least) (λ e f. (comparisons-mean a b e f).at_least)

pub passes-means : PassesMeans
passes-means column comparison operand row = holds-means comparison (cell_at column row).value (operand_value operand row)

pub matches-means : MatchesMeans
matches-means a b left right = holds-means Equal (cell_at a left).value (cell_at b right).value

pub filter-sifts : FilterSifts
unfolding make filtered
filter-sifts column comparison operand supply stack = passing-sifts (passes column comparison operand) (top stack).rows

-- ---- JOIN

map-append : {A B : Type 0} (f : A → B) (xs ys : List A) → map f (xs ++ ys) ≡ map f xs ++ map f ys
map-append f [] ys = refl
map-append {A} {B} f (x ∷ xs) ys = ap (λ (l : List B). f x ∷ l) (map-append f xs ys)

module _ (a b : ℕ) where
  abbrev pass : Row × Row → Bool
  pass pair = matches a b pair.0 pair.1

  abbrev made : Row × Row → Row
  made pair = joined_row b pair.0 pair.1

  -- rows are made of those of some pairs that match
  record Made (rows : List Row) (all : List (Row × Row)) : Type 0 where
    matching : List (Row × Row)
    sifted : Sifted pass matching all
    same : rows ≡ map made matching

  joined-to : (left : Row) (rights : List Row) → Made (joined_to a b left rights) (map (λ right. (left, right)) rights)
  joined-to left [] = record { matching = []; sifted = Sifted.end; same = refl }
  joined-to left (right ∷ rest) = kept_or_not (matches a b left right) refl (joined-to left rest)
    where
      kept_or_not : (t : Bool) → matches a b left right ≡ t → Made (joined_to a b left rest) (map (λ right. (left, right)) rest)
          → Made (cond t (joined_row b left right ∷ joined_to a b left rest) (joined_to a b left rest)) ((left, right) ∷ map (λ right. (left, right)) rest)
      kept_or_not true e m = record {
        matching = (left, right) ∷ m.matching;
        sifted = keeps e m.sifted;
        same = ap (λ (l : List Row). joined_row b left right ∷ l) m.same;
      }
      kept_or_not false e m = record { matching = m.matching; sifted = drops e m.sifted; same = m.same }

  joined-rows : (lefts rights : List Row) → Made (joined_rows a b lefts rights) (pairs lefts rights)
  joined-rows [] rights = record { matching = []; sifted = Sifted.end; same = refl }
  joined-rows (left ∷ rest) rights =
      let m = joined-to left rights in
      let n = joined-rows rest rights in
      record {
        matching = m.matching ++ n.matching;
        sifted = sifted-append m.sifted n.sifted;
        same = ap₂ ◌++◌ m.same n.same ∙ sym (map-append made m.matching n.matching);
      }

pub join-sifts : JoinSifts
unfolding make joined
join-sifts a b supply stack =
    let m = joined-rows a b (second stack).rows (top stack).rows in
    (m.matching, m.sifted, m.same)
