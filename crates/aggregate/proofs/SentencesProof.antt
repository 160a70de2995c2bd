-- Document 01's sentences on aggregates. Assumes nothing.
use Rattle.value.proofs.Laws.Range.{both-in, left_out, right-out}
use Rattle.aggregate.specs.Sentences.{AverageIsNearest, SmallerIsLeast, LargerIsGreatest}
use Rattle.aggregate.proofs.Laws.{smaller-out, larger-out, smaller-below, larger-above, smaller-one, larger-one, average-nearest}

pub average-is-nearest : AverageIsNearest
average-is-nearest = average-nearest

pub smaller-is-least : SmallerIsLeast
smaller-is-least = record {
  one = λ a b e f. smaller-one a b (both-in a b e f);
  left = λ a b e f. (smaller-below a b (both-in a b e f)).0;
  right = λ a b e f. (smaller-below a b (both-in a b e f)).1;
  over-left = λ a b e. smaller-out a b (left_out a b e);
  over-right = λ a b e. smaller-out a b (right-out a b e);
}

pub larger-is-greatest : LargerIsGreatest
larger-is-greatest = record {
  one = λ a b e f. larger-one a b (both-in a b e f);
  left = λ a b e f. (larger-above a b (both-in a b e f)).0;
  right = λ a b e f. (larger-above a b (both-in a b e f)).1;
  over-left = λ a b e. larger-out a b (left_out a b e);
  over-right = λ a b e. larger-out a b (right-out a b e);
}
