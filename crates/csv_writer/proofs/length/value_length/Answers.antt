-- `csv_writer::length::value_length` meets its contract. Assumes nothing.
use Prim.Native.Nat.{◌^◌, ◌≤◌}
use mathlib.Core.Path.{◌≡◌, sym, ap, ◌∙◌}
use native.Mathlib.Omega.{arith}
use lib.ListN.{length}
use Rattle.csv_text.specs.Text.{digits}
use Rattle.csv_writer.proofs.Digits.{minus-first, no_minus, size-fits, digits-fit}
use Rattle.value.specs.Pattern.{negative, magnitude_of}
use Rattle.value.proofs.Machine.{said}
use Rattle.csv_writer.proofs.length.value_length.Goals as goal
use Rattle.csv_writer.proofs.length.value_length.Goals.{After-digit_count-count, After-magnitude}

size : (c : After-magnitude) → c.magnitude.result ≡ magnitude_of c.args.v
size c = said magnitude_of c.ranges.v c.magnitude.ensures

size-at-After-digit_count-count : (c : After-digit_count-count) → c.magnitude.result ≡ magnitude_of c.args.v
size-at-After-digit_count-count c = said magnitude_of c.ranges.v c.magnitude.ensures

small : (c : After-magnitude) → c.magnitude.result ≤ 2 ^ 63
small c = rw (size c) (size-fits c.args.v c.ranges.v.sfits)

small-at-After-digit_count-count : (c : After-digit_count-count) → c.magnitude.result ≤ 2 ^ 63
small-at-After-digit_count-count c = rw (size-at-After-digit_count-count c) (size-fits c.args.v c.ranges.v.sfits)

count : (c : After-digit_count-count) → c.digit_count-count.result ≡ length (digits (magnitude_of c.args.v))
count c = c.digit_count-count.ensures ∙ ap (λ n. length (digits n)) (size-at-After-digit_count-count c)

few-digits : (c : After-digit_count-count) → c.digit_count-count.result ≤ 19
few-digits c = rw c.digit_count-count.ensures (digits-fit _ (small-at-After-digit_count-count c))

pub digit_count-count-requires : goal.digit_count-count-requires
digit_count-count-requires c = small c

pub overflow_add-result : goal.overflow_add-result
overflow_add-result c = omega (arith, few-digits (goal.at.overflow_add-result c).After-digit_count-count)

pub returns-then-negative : goal.returns-then-negative
returns-then-negative c =
    let n : negative _ ≡ _ = sym (said negative c.ranges.v c.negative.ensures) ∙ c.if-negative.true in
    (rw (minus-first _ n) (omega (arith, count (goal.at.returns-then-negative c).After-digit_count-count)), omega (arith, few-digits (goal.at.returns-then-negative c).After-digit_count-count))

pub returns-else-negative : goal.returns-else-negative
returns-else-negative c =
    let n : negative _ ≡ _ = sym (said negative c.ranges.v c.negative.ensures) ∙ c.if-negative.false in
    (rw (no_minus _ n) (count (goal.at.returns-else-negative c).After-digit_count-count), omega (arith, few-digits (goal.at.returns-else-negative c).After-digit_count-count))
