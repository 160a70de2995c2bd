-- `csv_reader::read::read_text` meets its contract. Assumes nothing.
use mathlib.Core.Path.{refl}
use Rattle.std.proofs.lemmas.Result.{err_from_is_err_and}
use Rattle.csv_reader.proofs.Reading.{fails-first, no_room, all_read, few-columns, many-columns}
use Rattle.csv_reader.proofs.read.read_text.Goals as goal

pub returns-then-fewest-gt8 : goal.returns-then-fewest-gt8
returns-then-fewest-gt8 c = rw (many-columns _ _ c.if-fewest-gt8.true) record { value = refl; values_after = refl }

pub returns-in_err-found : goal.returns-in_err-found
returns-in_err-found c =
    let p = err_from_is_err_and c.from_residual.result c.from_residual.ensures.1 in
    let whole = fails-first _ c.args.values.now _ c.in_err-found.field-0.0 c.in_err-found.ensures in
    rw (p.1, p.2, few-columns _ _ c.if-fewest-gt8.false) record { value = whole.0; values_after = whole.1 }

pub returns-then-values-found : goal.returns-then-values-found
returns-then-values-found c =
    let found = c.in_ok-found.found in
    let whole = no_room found.columns found.rows found.count c.in_ok-found.ensures c.args.values.now c.if-values-found.true in
    rw (few-columns _ _ c.if-fewest-gt8.false) record { value = whole.0; values_after = whole.1 }

pub returns : goal.returns
returns c =
    let found = c.in_ok-found.found in
    let whole = all_read found.columns found.rows found.count c.in_ok-found.ensures c.args.values.now _ c.go_through-2.result c.if-values-found.false c.go_through-2.ensures in
    rw (few-columns _ _ c.if-fewest-gt8.false) record { value = whole.0; values_after = whole.1 }
