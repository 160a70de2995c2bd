-- `cilunovay::run::cilunovay_run` meets its contract. Assumes nothing.
use native.Mathlib.Omega.{arith}
use lib.ListN.{length-set}
use Rattle.demands.specs.Given.{Given, given}
use Rattle.demands.specs.Lent.{lent}
use Rattle.cilunovay.proofs.CallMeaning.{copied, run_short, run_long}
use Rattle.cilunovay.proofs.run.cilunovay_run.Goals as goal
use Rattle.cilunovay.proofs.run.cilunovay_run.Goals.{Start}

abbrev given-at : Start → Given
given-at s =
    let a = s.args in
    given a.container.now a.draws.now a.overlay_0.now a.overlay_1.now a.overlay_2.now a.overlay_3.now

pub returns-then-answer-lt4 : goal.returns-then-answer-lt4
returns-then-answer-lt4 c =
    let a = c.args in
    run_short (given-at (goal.at.returns-then-answer-lt4 c).Start) (lent a.values.now a.labels.now a.marks.now a.output.now a.trace.now a.text.now) a.answer.now c.if-answer-lt4.true

pub returns : goal.returns
returns c =
    let a = c.args in
    let slices = lent a.values.now a.labels.now a.marks.now a.output.now a.trace.now a.text.now in
    rw (copied c.args.answer.now c.if-answer-lt4.false c.copy_from_slice.ensures.after c.copy_from_slice.ensures.len)
    (run_long (given-at (goal.at.returns c).Start) slices a.answer.now c.if-answer-lt4.false c.run-told.ensures c.run_numbers-numbers.ensures.value)
