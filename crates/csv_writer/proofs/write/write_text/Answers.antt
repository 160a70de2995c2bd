-- `csv_writer::write::write_text` meets its contract. Assumes nothing.
use Prim.Native.Nat.{◌*◌, ◌≤◌}
use mathlib.Core.Path.{◌≡◌}
use mathlib.Core.Bool.{true}
use native.Mathlib.Omega.{arith}
use lib.ListN.{length}
use Rattle.std.proofs.lemmas.Result.{err_from_is_err_and}
use Rattle.cells.proofs.Written.{as_long}
use Rattle.csv_writer.specs.promises.Writing.{is_table, text_from}
use Rattle.csv_writer.proofs.Texts.{table-parts, length-is, no-table, a-table, not_written, too_short, all-written}
use Rattle.csv_writer.proofs.write.write_text.Goals as goal
use Rattle.csv_writer.proofs.write.write_text.Goals.{In_ok-needed, Else-text-needed}

-- there is a table, of that length
table : (c : In_ok-needed) → let a = c.args in (is_table a.values.now a.rows a.columns ≡ true) × (c.in_ok-needed.needed ≡ length (text_from a.values.now a.rows a.columns))
table c =
    let a = c.args in
    a-table a.values.now a.rows a.columns c.text_length.ensures c.in_ok-needed.ensures.ok_part

parts : (c : In_ok-needed) → let a = c.args in (1 ≤ a.columns) × (a.columns ≤ 8) × (a.rows * a.columns ≤ length a.values.now) × (a.rows * a.columns ≤ 2048)
parts c = let a = c.args in table-parts a.values.now a.rows a.columns (table c).0

room : (c : Else-text-needed) → let a = c.args in length (text_from a.values.now a.rows a.columns) ≤ length a.text.now
room c = let a = c.args in omega (arith, (a-table a.values.now a.rows a.columns c.text_length.ensures c.in_ok-needed.ensures.ok_part).1, c.if-text-needed.false)

pub returns-in_err-needed : goal.returns-in_err-needed
returns-in_err-needed c =
    let a = c.args in
    let p = err_from_is_err_and c.from_residual.result c.from_residual.ensures.1 in
    let r = c.in_err-needed.ensures in
    let n = no-table a.values.now a.rows a.columns c.text_length.ensures r.ok_part r.value in
    let whole = not_written a.values.now a.rows a.columns a.text.now n.0 in rw (p.1, p.2, n.1) record { value = whole.0; text_after = whole.1 }

pub returns-then-text-needed : goal.returns-then-text-needed
returns-then-text-needed c =
    let a = c.args in
    let t = table (goal.at.returns-then-text-needed c).In_ok-needed in
    let whole = too_short a.values.now a.rows a.columns a.text.now t.0 (omega (arith, t.1, c.if-text-needed.true)) in record { value = whole.0; text_after = whole.1 }

pub put_header-at-requires : goal.put_header-at-requires
put_header-at-requires c =
    let a = c.args in
    let p = parts (goal.at.put_header-at-requires c).In_ok-needed in
    (p.0, p.1, omega (arith, room (goal.at.put_header-at-requires c).Else-text-needed, length-is a.values.now a.rows a.columns (table (goal.at.put_header-at-requires c).In_ok-needed).0))

pub overflow_mul-rows : goal.overflow_mul-rows
overflow_mul-rows c = omega (arith, parts (goal.at.overflow_mul-rows c).In_ok-needed)

pub put_rows-requires : goal.put_rows-requires
put_rows-requires c =
    let a = c.args in
    let p = parts (goal.at.put_rows-requires c).In_ok-needed in
    (p.0, omega (arith, room (goal.at.put_rows-requires c).Else-text-needed, length-is a.values.now a.rows a.columns (table (goal.at.put_rows-requires c).In_ok-needed).0, c.put_header-at.ensures.0, as_long c.put_header-at.ensures.1))

pub returns : goal.returns
returns c =
    let a = c.args in
    let whole = all-written a.values.now a.rows a.columns a.text.now _ _ (table (goal.at.returns c).In_ok-needed).0 (room (goal.at.returns c).Else-text-needed) c.put_header-at.ensures.1
    (rw c.put_header-at.ensures.0 at c.put_rows.ensures) (table (goal.at.returns c).In_ok-needed).1 in record { value = whole.0; text_after = whole.1 }
