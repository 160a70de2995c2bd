-- `step_trials::reading::number` meets its contract. Assumes nothing.
use Rattle.std.proofs.Common.{◌+◌, ◌∙◌, ap, sym, drop, arith}
use Rattle.std.specs.Prelude.{Option, Some, ℕ}
use Rattle.step_trials.specs.Words.{with_digits}
use Rattle.step_trials.proofs.Words.{digits_next}
use Rattle.step_trials.proofs.reading.number.Goals as goal

pub loop-byte-preserved : goal.loop-byte-preserved
loop-byte-preserved c =
    let word = c.args.word.now in
    let i = c.loop-byte.byte-index in (
      c.loop-byte.invariant.0,
      c.in_ok-number.ensures.fits,
      ap (λ (number : Option ℕ). with_digits c.args.base number (drop (i + 1) word)) c.in_ok-number.ensures.value
          ∙ sym (digits_next c.args.base (Some c.loop-byte.number) word i (omega arith)) ∙ c.loop-byte.invariant.2,
    )
