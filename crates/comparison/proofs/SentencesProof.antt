-- Document 01's sentences on comparisons. Assumes nothing.
use mathlib.Core.Path.{◌≡◌, refl, sym, ap, ◌∙◌}
use mathlib.Core.Bool.{Bool, true, false, not, true≢false}
use mathlib.Core.Logic.{inl, ⊎_elim}
use lib.Dec.{T}
use lib.IntN.{ℤ}
use lib.Signed.{lt_z, le_z, ◌≤ℤ◌, ◌<ℤ◌}
use borrow.Author.Tests.{not-true}
use Rattle.value.specs.Range.{in_range, both_in_range, OVER}
use Rattle.comparison.specs.Comparison.{equal, less, at_most, same}
use Rattle.comparison.specs.Sentences.{ComparisonsMean, OverIsFalse, SameMeans}
use Rattle.value.proofs.Laws.Range.{over-out, settled-in, settled-out, both-in, left_out, right-out}
use Rattle.comparison.proofs.Laws.{equal-out, unequal-out, less-out, at-most-out, greater-out, at-least-out, unequal-not, greater-less, at-least-at-most, equal-eq, equal-refl, less-lt, at-most-le, same-settled, same_refl, same-sym, same_out, same-eq}

is_true : (t : Bool) → T t → t ≡ true
is_true true h = refl
is_true false h = absurd h

is_false : (t : Bool) → (t ≡ true → ⊥) → t ≡ false
is_false true f = absurd (f refl)
is_false false f = refl

module _ (a b : ℤ) (e : both_in_range a b ≡ true) where
  lt-less : a <ℤ b → less a b ≡ true
  unfolding less
  lt-less h = rw e (is_true (lt_z a b) h.lt)

  le-at-most : a ≤ℤ b → at_most a b ≡ true
  unfolding at_most
  le-at-most h = rw e (is_true (le_z a b) h.le)

pub comparisons-mean : ComparisonsMean
comparisons-mean a b e f =
    let i = both-in a b e f in
    let j = both-in b a f e in
    let same : a ≡ b → equal a b ≡ true = λ p. rw (← p) (equal-refl a e) in
    record {
      equal = (equal-eq a b, same);
      unequal = (
        λ u p. true≢false (sym (same p) ∙ not-true (equal a b) (sym (unequal-not a b i) ∙ u)),
        λ n. unequal-not a b i ∙ ap not (is_false (equal a b) (λ t. n (equal-eq a b t))),
      );
      less = (less-lt a b, lt-less a b i);
      at_most = (at-most-le a b, le-at-most a b i);
      greater = (λ g. less-lt b a (sym (greater-less a b) ∙ g), λ h. greater-less a b ∙ lt-less b a j h);
      at_least = (λ g. at-most-le b a (sym (at-least-at-most a b) ∙ g), λ h. at-least-at-most a b ∙ le-at-most b a j h);
    }

pub over-is-false : OverIsFalse
over-is-false a b over =
    let e = ⊎_elim (left_out a b) (right-out a b) over in
    record {
      equal = equal-out a b e;
      unequal = unequal-out a b e;
      less = less-out a b e;
      at_most = at-most-out a b e;
      greater = greater-out a b e;
      at_least = at-least-out a b e;
    }

-- a value is not the key that OVER is
value-not-over : (a b : ℤ) → in_range a ≡ true → in_range b ≡ false → same a b ≡ false
value-not-over a b e f =
    is_false (same a b) (λ s.
    let over : a ≡ OVER = sym (settled-in a e) ∙ same-settled a b s ∙ settled-out b f in
    true≢false (sym e ∙ ap in_range over ∙ over-out))

pub same-means : SameMeans
same-means a b = record {
  values = λ e f. (same-eq a b (inl e) (inl f), λ p. rw (← p) (same_refl a));
  overs = same_out a b;
  value-over = value-not-over a b;
  over-value = λ e f. is_false (same a b) (λ s. true≢false (sym (same-sym a b s) ∙ value-not-over b a f e));
}
