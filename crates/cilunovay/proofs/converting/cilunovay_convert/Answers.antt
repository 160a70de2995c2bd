-- `cilunovay::converting::cilunovay_convert` meets its contract. Assumes nothing.
use Rattle.cilunovay.proofs.CallMeaning.{copied, convert-short, convert-long}
use Rattle.cilunovay.proofs.converting.cilunovay_convert.Goals as goal

pub returns-then-answer-lt2 : goal.returns-then-answer-lt2
returns-then-answer-lt2 c =
    let a = c.args in
    convert-short a.container.now a.converted.now a.offsets.now a.answer.now c.if-answer-lt2.true

pub returns : goal.returns
returns c =
    let a = c.args in
    rw (copied c.args.answer.now c.if-answer-lt2.false c.copy_from_slice.ensures.after c.copy_from_slice.ensures.len)
    (convert-long a.container.now a.converted.now a.offsets.now a.answer.now c.if-answer-lt2.false c.convert-told.ensures c.conversion_numbers-numbers.ensures.value)
