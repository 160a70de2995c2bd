-- `mark_numbers::numbers` meets its contract. The loop: the rows passed have their numbers, and each hash value leads to one of them. Assumes nothing.
use Prim.Native.Nat.{ℕ, ◌≤◌}
use mathlib.Core.Path.{refl, ap, ◌∙◌}
use mathlib.Core.List.{List}
use native.Mathlib.Omega.{arith}
use lib.ListN.{set}
use Rattle.mark_numbers.proofs.Buckets.{no_row, guessed, one-row}
use Rattle.mark_numbers.proofs.Firsts.{first-upto}
use Rattle.mark_numbers.proofs.RowNumbers.{one_number}
use Rattle.mark_numbers.proofs.numbers.Goals as goal
use Rattle.mark_numbers.proofs.numbers.Goals.{After-first_row-first}

pub loop-row-init : goal.loop-row-init
loop-row-init c = (refl, no_row _)

pub first_row-first-requires : goal.first_row-first-requires
first_row-first-requires c = (c.loop-row-test.true, guessed c.args.marks.now c.loop-row.row c.loop-row-test.true c.loop-row.invariant.1)

-- the first row is among those passed
small : (c : After-first_row-first) → c.first_row-first.result ≤ c.loop-row.row
small c = omega (arith, c.first_row-first.ensures, first-upto c.args.marks.now c.loop-row.row (omega arith))

pub overflow_cast-last : goal.overflow_cast-last
overflow_cast-last c = omega (arith, small c)

pub loop-row-preserved : goal.loop-row-preserved
loop-row-preserved c =
    let marks = c.args.marks.now in
    let row = c.loop-row.row in
    let first = c.first_row-first.result in
    let is = c.first_row-first.ensures in (
      ap (λ (found : List ℕ). set found row first) c.loop-row.invariant.0 ∙ one_number marks row first (omega arith) is,
      one-row marks row (omega arith) c.loop-row.invariant.1 first is,
    )
