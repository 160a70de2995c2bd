-- `csv_writer::length::text_length` meets its contract. The loop's invariant: the text is as long as what is
-- counted and what is left of it. Assumes nothing.
use Prim.Native.Nat.{◌*◌, ◌≤◌}
use mathlib.Core.Path.{◌≡◌, sym, ap, ◌∙◌}
use mathlib.Core.Bool.{true}
use native.Mathlib.Omega.{arith}
use lib.ListN.{length, take}
use borrow.Author.Tests.{le-leb}
use Rattle.std.specs.Prelude.{Some}
use Rattle.cells.specs.promises.Search.{table_within}
use Rattle.csv_text.specs.Text.{decimal}
use Rattle.csv_writer.proofs.Cells.{next-counted, none_left, text-length, left-stays, table-fits}
use Rattle.value.proofs.Machine.{back_is}
use Rattle.csv_writer.proofs.length.text_length.Goals as goal
use Rattle.csv_writer.proofs.length.text_length.Goals.{Else-not-within}

table : (c : Else-not-within) → let a = c.args in table_within 0 a.rows a.columns (length a.values.now) ≡ true
table c = sym c.within.ensures ∙ c.if-not-within.false

fits : (c : Else-not-within) → let a = c.args in (a.rows * a.columns ≤ 2048) × (a.columns ≤ 8) × (a.rows * a.columns ≤ length a.values.now)
fits c = let a = c.args in table-fits a.rows a.columns (length a.values.now) (table c)

some : (c : Else-not-within) → 1 ≤ c.args.columns
some c = omega (arith, c.if-columns-eq0.false)

pub loop-value-preserved : goal.loop-value-preserved
loop-value-preserved c =
    let a = c.args in
    let i = c.loop-value.invariant in (
      rw c.next_left-left.ensures (left-stays a.columns c.loop-value.left (some (goal.at.loop-value-preserved c).Else-not-within) i.0),
      omega arith,
      next-counted a.columns c.loop-value.left (take (a.rows * a.columns) a.values.now) c.loop-value.value-index _ c.loop-value.bytes c.loop-value-test.true i.2
          (c.value_length.ensures.0 ∙ ap (λ z. length (decimal z)) (back_is _ c.value-1.given)) c.separator_length.ensures.0 c.next_left-left.ensures,
    )

pub loop-value-init : goal.loop-value-init
loop-value-init c =
    let a = c.args in
    let f = fits c in
    (some c, omega (arith, f.1), text-length a.columns a.rows a.values.now (some c) f.1 f.2)

pub returns : goal.returns
returns c =
    let a = c.args in
    let d = (goal.at.returns c).Else-not-within in
    rw (le-leb 1 a.columns (some d), table d)
    (ap Some (sym (c.loop-value.invariant.2 ∙ rw (none_left a.columns c.loop-value.left (take (a.rows * a.columns) a.values.now) c.loop-value.value-index c.loop-value-test.false) (omega arith))))
