-- `extension::extending::make_rows` meets its contract. The loop's invariant is `Making`. Assumes nothing.
use mathlib.Core.Path.{◌≡◌}
use native.Mathlib.Omega.{arith}
use borrow.Author.Rules.{rules}
use Rattle.extension.proofs.MakingRows.{make-begins, inside-yet, row-again}
use Rattle.extension.proofs.extending.make_rows.Goals as goal

pub loop-row-init : goal.loop-row-init
loop-row-init g c = (make-begins c.requires.inside.0 c.requires.inside.1, search rules)

pub make_row-requires : goal.make_row-requires
make_row-requires g c = record { inside = (inside-yet c.requires.inside.0 c.requires.inside.1 c.loop-row.invariant.0, c.requires.inside.1); has_row = (c.requires.has_column, c.loop-row-test.true) }

pub loop-row-preserved : goal.loop-row-preserved
loop-row-preserved g c = (row-again c.requires.inside.0 c.requires.inside.1 c.loop-row.invariant.0 c.loop-row-test.true c.make_row.ensures.done, search rules)

pub returns-clause-done : goal.returns-clause-done
returns-clause-done g c =
    let e : c.loop-row.row ≡ c.args.top.rows = omega (arith, c.loop-row.invariant.0.row-le, c.loop-row-test.false) in
    record { written = rw (← e) c.loop-row.invariant.0.written; kept = c.loop-row.invariant.0.same }
