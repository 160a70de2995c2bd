-- `conversion::convert` meets its contract. Assumes nothing.
use mathlib.Core.Path.{sym}
use Rattle.std.proofs.lemmas.Result.{err_from_is_err_and}
use Rattle.conversion.proofs.Meaning.{short-new, short-offsets, refuses, converts}
use Rattle.conversion.proofs.convert.Goals as goal
use Rattle.conversion.proofs.convert.Goals.{then-new-container-via-then-new-container, then-new-container-via-else-new-container+then-offsets-lt8192}

pub returns-then-new-container : goal.returns-then-new-container
returns-then-new-container c =
    elim c.then-new-container.branch [
      | then-new-container-via-then-new-container w ↦ short-new _ _ _ w.if-new-container.true
      | then-new-container-via-else-new-container+then-offsets-lt8192 w ↦ short-offsets _ _ _ w.if-new-container.false w.if-offsets-lt8192.true
    ]

pub returns-in_err-check_before : goal.returns-in_err-check_before
returns-in_err-check_before c =
    let p = err_from_is_err_and c.from_residual.result c.from_residual.ensures.1 in
    rw (p.1, p.2) (refuses _ _ _ c.if-new-container.false c.if-offsets-lt8192.false _ c.in_err-check_before.ensures)

pub returns : goal.returns
returns c =
    converts _ _ _ c.if-new-container.false c.if-offsets-lt8192.false (sym c.in_ok-check_before.ensures) (rw c.copy.ensures at c.raise_tables.ensures)
