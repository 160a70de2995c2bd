-- `cilunovay::check::cilunovay_check` meets its contract. Assumes nothing.
use native.Mathlib.Omega.{arith}
use Rattle.cilunovay.proofs.CallMeaning.{copied, check-short, check-long}
use Rattle.cilunovay.proofs.check.cilunovay_check.Goals as goal

pub returns-then-answer-lt2 : goal.returns-then-answer-lt2
returns-then-answer-lt2 c = check-short c.args.container.now c.args.answer.now (omega arith)

pub returns : goal.returns
returns c =
    rw (copied c.args.answer.now c.if-answer-lt2.false c.copy_from_slice.ensures.after c.copy_from_slice.ensures.len)
    (check-long c.args.container.now c.args.answer.now c.if-answer-lt2.false c.check_input.ensures c.check_numbers-numbers.ensures.value)
