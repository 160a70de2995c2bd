-- `evaluator::monitor::run_over` meets its contract. Assumes nothing.
use Rattle.cells.specs.promises.Lent.{memory_held}
use Rattle.cells.specs.promises.Work.{Memory, memory_of}
use mathlib.Core.List.{map}
use Rattle.demands.specs.Given.{Given}
use Rattle.walk.specs.promises.Walk.{given_of}
use Rattle.run_answers.specs.Answers.{run_says}
use Rattle.evaluator.proofs.RunMeaning.{output-short, work-short, input-refused, Evaluated, step-refused, steps-released, run-begun}
use Rattle.evaluator.proofs.monitor.run_over.Goals as goal
use Rattle.evaluator.proofs.monitor.run_over.Goals.{Joined-walk, Start, in-Ok, in-Err-Step}

-- what the run is given, and its work memory
abbrev given-at : Start → Given
given-at s =
    let a = s.args in
    given_of a.container.now a.draws.now (map (λ overlay. overlay.now) a.overlays.now)

abbrev memory : Start → Memory
memory c = let a = c.args in memory_of a.cells.now.values.now a.cells.now.labels.now a.marks.now

pub returns-then-output-lt2048-clause-done : goal.returns-then-output-lt2048-clause-done
returns-then-output-lt2048-clause-done c =
    let a = c.args in
    let s = (goal.at.returns-then-output-lt2048-clause-done c).Start in
    output-short (given-at s) (memory s) a.output.now a.trace.now a.text.now c.if-output-lt2048.true

pub returns-in-Err-TooShort-clause-done : goal.returns-in-Err-TooShort-clause-done
returns-in-Err-TooShort-clause-done c =
    let a = c.args in
    let s = (goal.at.returns-in-Err-TooShort-clause-done c).Start in
    let walked = rw (c.in-Err-TooShort.is, c.in-Err-TooShort.field-0-is) at c.walk.ensures.walked in
    work-short (given-at s) (memory s) a.output.now a.trace.now a.text.now c.if-output-lt2048.false walked

pub returns-in-Err-Input-clause-done : goal.returns-in-Err-Input-clause-done
returns-in-Err-Input-clause-done c =
    let a = c.args in
    let s = (goal.at.returns-in-Err-Input-clause-done c).Start in
    let walked = rw (c.in-Err-Input.is, c.in-Err-Input.field-0-is) at c.walk.ensures.walked in
    input-refused (given-at s) (memory s) a.output.now a.trace.now a.text.now c.if-output-lt2048.false c.in-Err-Input.refusal walked

-- the arms meet
evaluated : (c : Joined-walk) → let a = c.args in
    let g = given_of a.container.now a.draws.now (map (λ overlay. overlay.now) a.overlays.now) in
    Evaluated g (memory_of a.cells.now.values.now a.cells.now.labels.now a.marks.now) a.output.now a.trace.now a.text.now (run_says c.match-walk.answer)
    (memory_held c.match-walk.cells c.walk.new.marks) c.match-walk.output c.walk.new.trace c.match-walk.text
evaluated c =
    let a = c.args in
    let g = given_of a.container.now a.draws.now (map (λ overlay. overlay.now) a.overlays.now) in
    let m = memory_of a.cells.now.values.now a.cells.now.labels.now a.marks.now in
    let long = c.if-output-lt2048.false in
    elim c.match-walk.branch [
      | in-Ok w ↦
          let walked = rw w.in-Ok.is at c.walk.ensures.walked in
          rw (w.cells-is, w.output-is, w.text-is, w.answer-is) (steps-released g m a.output.now a.trace.now a.text.now long _ walked w.release-told.ensures w.of_release-answer.ensures)
      | in-Err-Step w ↦
          let walked = rw (w.in-Err-Step.is, w.in-Err-Step.field-0-is) at c.walk.ensures.walked in
          rw (w.cells-is, w.output-is, w.text-is, w.answer-is) (step-refused g m a.output.now a.trace.now a.text.now long w.in-Err-Step.step w.in-Err-Step.refusal walked)
    ]

pub returns-clause-done : goal.returns-clause-done
returns-clause-done c =
    let a = c.args in
    let s = (goal.at.returns-clause-done c).Start in
    run-begun (given-at s) (memory s) a.output.now a.trace.now a.text.now c.if-output-lt2048.false (evaluated (goal.at.returns-clause-done c).Joined-walk) c.clear_memory.ensures.done
