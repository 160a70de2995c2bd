-- `csv_writer::write::put_value` meets its contract. Assumes nothing.
use mathlib.Core.Path.{◌≡◌, sym, ap, ◌∙◌}
use mathlib.Core.List.{◌∷◌}
use native.Mathlib.Omega.{arith}
use lib.ListN.{length, length-set}
use Rattle.cells.proofs.Written.{then-written, as_long}
use Rattle.csv_text.specs.Text.{digits, decimal}
use Rattle.csv_writer.proofs.Digits.{minus-first, no_minus, size-fits}
use Rattle.csv_writer.proofs.Writing.{one-put}
use Rattle.value.specs.Pattern.{negative, magnitude_of}
use Rattle.value.proofs.Machine.{said}
use Rattle.csv_writer.proofs.write.put_value.Goals as goal
use Rattle.csv_writer.proofs.write.put_value.Goals.{After-magnitude-size, Else-negative, Then-negative}

size : (c : After-magnitude-size) → c.magnitude-size.result ≡ magnitude_of c.args.v
size c = said magnitude_of c.ranges.v c.magnitude-size.ensures

size-at-Then-negative : (c : Then-negative) → c.magnitude-size.result ≡ magnitude_of c.args.v
size-at-Then-negative c = said magnitude_of c.ranges.v c.magnitude-size.ensures

size-at-Else-negative : (c : Else-negative) → c.magnitude-size.result ≡ magnitude_of c.args.v
size-at-Else-negative c = said magnitude_of c.ranges.v c.magnitude-size.ensures

-- a value's bytes, by its sign
minus : (c : Then-negative) → decimal c.args.v ≡ 45 ∷ digits c.magnitude-size.result
minus c =
    minus-first _ (sym (said negative c.ranges.v c.negative.ensures) ∙ c.if-negative.true) ∙ ap (λ n. 45 ∷ digits n) (sym (size-at-Then-negative c))

plain : (c : Else-negative) → decimal c.args.v ≡ digits c.magnitude-size.result
plain c =
    no_minus _ (sym (said negative c.ranges.v c.negative.ensures) ∙ c.if-negative.false) ∙ ap digits (sym (size-at-Else-negative c))

pub digit_count-count-requires : goal.digit_count-count-requires
digit_count-count-requires c = rw (size c) (size-fits c.args.v c.ranges.v.sfits)

pub bounds-text-at : goal.bounds-text-at
bounds-text-at c = omega (arith, c.requires, ap length (minus c))

pub put_digits-requires : goal.put_digits-requires
put_digits-requires c =
    (c.digit_count-count.ensures, rw length-set (omega (arith, c.requires, ap length (minus (goal.at.put_digits-requires c).Then-negative), c.digit_count-count.ensures)))

pub overflow_add-result-then-negative : goal.overflow_add-result-then-negative
overflow_add-result-then-negative c =
    omega (arith, c.requires, ap length (minus (goal.at.overflow_add-result-then-negative c).Then-negative), c.digit_count-count.ensures)

pub shape_of-text-then-negative : goal.shape_of-text-then-negative
shape_of-text-then-negative c = as_long c.put_digits.ensures ∙ simp length-set

pub returns-then-negative : goal.returns-then-negative
returns-then-negative c =
    let a = c.args in (
      omega (arith, ap length (minus (goal.at.returns-then-negative c).Then-negative), c.digit_count-count.ensures),
      rw (minus (goal.at.returns-then-negative c).Then-negative) (then-written (one-put a.text.now a.at 45 (bounds-text-at (goal.at.returns-then-negative c).Then-negative)) (omega arith) c.put_digits.ensures),
    )

pub put_digits-requires-2 : goal.put_digits-requires-2
put_digits-requires-2 c =
    (c.digit_count-count.ensures, omega (arith, c.requires, ap length (plain (goal.at.put_digits-requires-2 c).Else-negative), c.digit_count-count.ensures))

pub returns : goal.returns
returns c =
    (omega (arith, ap length (plain (goal.at.returns c).Else-negative), c.digit_count-count.ensures), rw (plain (goal.at.returns c).Else-negative) c.put_digits-2.ensures)
