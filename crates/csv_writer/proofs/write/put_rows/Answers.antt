-- `csv_writer::write::put_rows` meets its contract. Assumes nothing.
use Prim.Native.Nat.{ℕ, ◌+◌, ◌^◌, ◌<◌}
use mathlib.Core.List.{List, ◌++◌}
use lib.IntN.{ℤ, pos}
use lib.ListN.{length, get_or, drop}
use lib.Signed.{mag}
use Rattle.csv_text.specs.Text.{decimal}
use Rattle.csv_writer.specs.promises.Cells.{separator, next_left, spelled}
use Rattle.csv_writer.proofs.Cells.{next-value, none_left, left-stays}
use Rattle.csv_writer.proofs.Writing.{Sofar, sofar-begins, sofar-room, sofar-next, sofar-long, sofar-ends}
use Rattle.value.proofs.Machine.{back, back_is}
use Rattle.csv_writer.proofs.write.put_rows.Goals as goal

-- in the loop the next value, and what comes after its separator
value-next : {whole list mid : List ℕ} {at to : ℕ} (columns left : ℕ) (values : List ℤ) (i : ℕ) → i < length values → mag (get_or values i (pos 0)) < 2 ^ 63
    → Sofar whole list at mid to (spelled columns left (drop i values))
    → Sofar whole list at mid to (decimal (back (get_or values i (pos 0))) ++ (separator left ++ spelled columns (next_left columns left) (drop (i + 1) values)))
value-next columns left values i h f s = rw (back_is (get_or values i (pos 0)) f) (rw (next-value columns left values i h) at s)

pub loop-value-init : goal.loop-value-init
loop-value-init c = (c.requires.0, sofar-begins _ c.args.text.now c.args.at c.requires.1)

pub put_value-to-requires : goal.put_value-to-requires
put_value-to-requires c =
    let next = value-next c.args.columns c.loop-value.left c.args.values.now c.loop-value.value-index c.loop-value-test.true c.value-1.given c.loop-value.invariant.1 in
    sofar-room _ _ next c.requires.1

pub put_separator-to-requires : goal.put_separator-to-requires
put_separator-to-requires c =
    let next = value-next c.args.columns c.loop-value.left c.args.values.now c.loop-value.value-index c.loop-value-test.true c.value-1.given c.loop-value.invariant.1 in
    sofar-room _ _ (sofar-next _ _ next c.put_value-to.ensures.0 c.put_value-to.ensures.1) c.requires.1

pub loop-value-preserved : goal.loop-value-preserved
loop-value-preserved c =
    let next = value-next c.args.columns c.loop-value.left c.args.values.now c.loop-value.value-index c.loop-value-test.true c.value-1.given c.loop-value.invariant.1 in
    rw c.next_left-left.ensures (
      left-stays c.args.columns c.loop-value.left c.requires.0 c.loop-value.invariant.0,
      sofar-next _ _ (sofar-next _ _ next c.put_value-to.ensures.0 c.put_value-to.ensures.1) c.put_separator-to.ensures.0 c.put_separator-to.ensures.1,
    )

pub shape_of-text : goal.shape_of-text
shape_of-text c = sofar-long c.loop-value.invariant.1

pub returns : goal.returns
returns c = sofar-ends (rw (none_left c.args.columns c.loop-value.left c.args.values.now c.loop-value.value-index c.loop-value-test.false) at c.loop-value.invariant.1)
