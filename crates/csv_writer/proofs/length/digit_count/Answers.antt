-- `csv_writer::length::digit_count` meets its contract. Assumes nothing.
use mathlib.Core.Path.{refl, sym, ap}
use native.Mathlib.Omega.{arith}
use lib.ListN.{length}
use Rattle.csv_writer.proofs.Digits.{digits-one, some-digits, few, many}
use Rattle.csv_writer.proofs.length.digit_count.Goals as goal

pub returns-then-n-lt10 : goal.returns-then-n-lt10
returns-then-n-lt10 c = sym (ap length (digits-one _ c.if-n-lt10.true))

pub count_from-requires : goal.count_from-requires
count_from-requires c = (omega arith, refl, some-digits _, few 3 _ c.if-n-lt10000.true)

pub count_from-requires-then-n-lt100000000 : goal.count_from-requires-then-n-lt100000000
count_from-requires-then-n-lt100000000 c = (omega arith, refl, many 4 _ c.if-n-lt10000.false, few 7 _ c.if-n-lt100000000.true)

pub count_from-requires-then-n-lt1000000000000 : goal.count_from-requires-then-n-lt1000000000000
count_from-requires-then-n-lt1000000000000 c = (omega arith, refl, many 8 _ c.if-n-lt100000000.false, few 11 _ c.if-n-lt1000000000000.true)

pub count_from-requires-then-n-lt10000000000000000 : goal.count_from-requires-then-n-lt10000000000000000
count_from-requires-then-n-lt10000000000000000 c = (omega arith, refl, many 12 _ c.if-n-lt1000000000000.false, few 15 _ c.if-n-lt10000000000000000.true)

pub count_from-requires-2 : goal.count_from-requires-2
count_from-requires-2 c = (omega arith, refl, many 16 _ c.if-n-lt10000000000000000.false, few 19 _ (omega arith))
