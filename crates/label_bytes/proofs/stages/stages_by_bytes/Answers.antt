-- `label_bytes::stages::stages_by_bytes` meets its contract. Assumes nothing.
use Prim.Native.Nat.{◌*◌}
use mathlib.Core.Path.{sym, ◌∙◌}
use native.Mathlib.Nat.{mul-le-mul}
use native.Mathlib.Omega.{arith}
use lib.ListN.{take, length-take}
use Rattle.cells.proofs.Searching.{within-table}
use Rattle.trace_lines.proofs.Sums.{stages-flat, stages-summed, stages-fit}
use Rattle.label_bytes.specs.Words.{words_of}
use Rattle.label_bytes.proofs.Counts.{summed_chunks}
use Rattle.label_bytes.proofs.Words.{words-length}
use Rattle.label_bytes.proofs.stages.stages_by_bytes.Goals as goal

pub returns-then-not-within : goal.returns-then-not-within
returns-then-not-within c =
    rw (words-length c.args.bytes.now, ← c.as_chunks.ensures.front_len, sym c.within.ensures ∙ c.if-not-within.true)

pub stages_of-requires : goal.stages_of-requires
stages_of-requires c =
    let a = c.args in
    let part = take (a.rows * a.columns) (words_of a.bytes.now) in
    let t = within-table 0 a.rows a.columns _ (sym c.within.ensures ∙ c.if-not-within.false) in
    rw (c.as_chunks.ensures.front, ← summed_chunks (a.rows * a.columns) a.bytes.now, stages-summed part)
    (stages-fit part (omega (arith, mul-le-mul t.0 t.1, length-take (a.rows * a.columns) (words_of a.bytes.now))))

pub returns : goal.returns
returns c =
    let a = c.args in
    rw (words-length a.bytes.now, ← c.as_chunks.ensures.front_len, sym c.within.ensures ∙ c.if-not-within.false, stages-flat a.columns a.rows (words_of a.bytes.now))
    (rw c.as_chunks.ensures.front at c.stages_of.ensures ∙ sym (summed_chunks (a.rows * a.columns) a.bytes.now))
