-- `pairs::rows::join_pair` meets its contract. Assumes nothing.
use Prim.Native.Nat.{◌+◌}
use mathlib.Core.Path.{◌≡◌, ◌∙◌}
use native.Mathlib.Omega.{arith}
use Rattle.cells.specs.promises.Lent.{work_held}
use Rattle.cells.specs.promises.Work.{cells_in}
use Rattle.pairs.proofs.Growing.{keys_match, keys-match, unmatched, one-too-many, one-made}
use Rattle.memory.proofs.Stacks.{fits-slot}
use Rattle.pairs.proofs.rows.join_pair.Goals as goal
use Rattle.pairs.proofs.rows.join_pair.Goals.{After-equal}

-- the test says whether the keys match
keys : (c : After-equal) → let a = c.args in keys_match (cells_in (work_held a.cells.now)) a.sides.left a.sides.right a.at a.other ≡ c.equal.result
keys c =
    let a = c.args in
    keys-match (work_held a.cells.now) c.requires.fit a.at a.other c.requires.columns_bound.0 c.requires.columns_bound.1 c.equal-arg-1.given c.equal-arg-2-1.given c.equal.ensures

pub returns-then-not-equal-clause-grown : goal.returns-then-not-equal-clause-grown
returns-then-not-equal-clause-grown c =
    let a = c.args in
    unmatched (work_held a.cells.now) c.requires.fit a.at a.other (keys (goal.at.returns-then-not-equal-clause-grown c).After-equal ∙ c.if-not-equal.true) c.requires.columns_bound.2

pub returns-then-made-eq256-clause-grown : goal.returns-then-made-eq256-clause-grown
returns-then-made-eq256-clause-grown c =
    let a = c.args in
    one-too-many (work_held a.cells.now) c.requires.fit a.at a.other (keys (goal.at.returns-then-made-eq256-clause-grown c).After-equal ∙ c.if-not-equal.false) c.if-made-eq256.true

pub overflow_mul-made : goal.overflow_mul-made
overflow_mul-made c =
    omega (arith, fits-slot c.args.made c.width.result c.requires.columns_bound.2 (omega (arith, c.width.ensures, c.requires.fit.few)))

pub overflow_add-made : goal.overflow_add-made
overflow_add-made c =
    omega (arith, fits-slot c.args.made c.width.result c.requires.columns_bound.2 (omega (arith, c.width.ensures, c.requires.fit.few)))

pub write_row-requires : goal.write_row-requires
write_row-requires c =
    let slot = fits-slot (c.args.made + 1) c.width.result (omega arith) (omega (arith, c.width.ensures, c.requires.fit.few)) in
    record { fit = c.requires.fit; columns_bound = (omega arith, omega arith, omega (arith, slot, c.width.ensures)) }

pub returns-clause-grown : goal.returns-clause-grown
returns-clause-grown c =
    let a = c.args in
    let put = rw c.width.ensures at c.write_row.ensures.put in
    one-made (work_held a.cells.now) c.requires.fit a.at a.other (keys (goal.at.returns-clause-grown c).After-equal ∙ c.if-not-equal.false) (omega (arith, c.requires.columns_bound.2, c.if-made-eq256.false))
    put.written.is put.kept
