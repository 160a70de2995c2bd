-- `csv_reader::spot::with_digit` meets its contract. Assumes nothing.
use Prim.Native.Nat.{◌+◌, ◌*◌, ◌<◌}
use mathlib.Core.Path.{sym, ◌∙◌}
use native.Mathlib.Omega.{arith}
use Rattle.csv_reader.specs.Reader.{largest, digit_of}
use Rattle.csv_reader.proofs.Spots.{digit-size, largest-most, no_digit, leading-zero, too_large, one-more}
use Rattle.csv_reader.proofs.spot.with_digit.Goals as goal
use Rattle.csv_reader.proofs.spot.with_digit.Goals.{Else-size-gt14073748835532}

some_size : (c : Else-size-gt14073748835532) → 0 < c.args.size
some_size c = let h = c.if-size-eq0.false in omega arith

pub returns-then-not-is_digit : goal.returns-then-not-is_digit
returns-then-not-is_digit c = rw (no_digit _ _ _ (sym c.is_digit.ensures ∙ c.if-not-is_digit.true))

pub returns-then-size-eq0 : goal.returns-then-size-eq0
returns-then-size-eq0 c = rw (leading-zero _ _ _ c.if-size-eq0.true)

pub returns-then-size-gt14073748835532 : goal.returns-then-size-gt14073748835532
returns-then-size-gt14073748835532 c =
    let a = c.args in
    let h : largest a.negative < 10 * a.size + digit_of a.byte = omega (arith, largest-most a.negative, c.if-size-gt14073748835532.true) in
    rw (too_large _ _ _ h)

pub overflow_sub-more : goal.overflow_sub-more
overflow_sub-more c = (digit-size _ (sym c.is_digit.ensures ∙ c.if-not-is_digit.false)).0

pub returns-then-more-largest : goal.returns-then-more-largest
unfolding digit_of
returns-then-more-largest c =
    rw (one-more _ _ _ (sym c.is_digit.ensures ∙ c.if-not-is_digit.false) (some_size (goal.at.returns-then-more-largest c).Else-size-gt14073748835532) (rw c.largest.ensures at c.if-more-largest.true))

pub returns : goal.returns
unfolding digit_of
returns c = rw (too_large _ _ _ (rw c.largest.ensures at c.if-more-largest.false))
