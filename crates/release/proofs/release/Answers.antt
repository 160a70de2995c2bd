-- `release::release` meets its contract. Assumes nothing.
use mathlib.Core.Path.{◌≡◌}
use Rattle.std.specs.Prelude.{None, Ok}
use Rattle.cells.specs.promises.Search.{place_says, not_clear_at}
use Rattle.cells.specs.promises.Work.{work}
use Rattle.release.proofs.Replies.{few-cells, stage-left, labels-unfit, over-left, values-unfit, then-written}
use Rattle.release.proofs.release.Goals as goal
use Rattle.release.proofs.release.Goals.{In_default}

clear : (c : In_default) → let a = c.args in place_says 35 0 (Ok None) ≡ not_clear_at 35 0 a.labels.now 0 a.rows a.columns 255
clear c = rw c.in_default.is at (c.in_ok-at.ensures 35 0)

pub returns-in_err-at : goal.returns-in_err-at
returns-in_err-at c =
    let a = c.args in
    labels-unfit (work a.values.now a.labels.now) a.output.now a.text.now a.rows a.columns (c.in_err-at.ensures 35 0) c.from_residual.ensures.1

pub returns-in-Some : goal.returns-in-Some
returns-in-Some c =
    let a = c.args in
    stage-left (work a.values.now a.labels.now) a.output.now a.text.now a.rows a.columns _ (rw c.in-Some.is at (c.in_ok-at.ensures 35 0))

pub returns-in_err-at-2 : goal.returns-in_err-at-2
returns-in_err-at-2 c =
    let a = c.args in
    values-unfit (work a.values.now a.labels.now) a.output.now a.text.now a.rows a.columns (clear (goal.at.returns-in_err-at-2 c).In_default) (c.in_err-at-2.ensures 0) c.from_residual-in_err-at-2.ensures.1

pub returns-in-Some-2 : goal.returns-in-Some-2
returns-in-Some-2 c =
    let a = c.args in
    over-left (work a.values.now a.labels.now) a.output.now a.text.now a.rows a.columns (clear (goal.at.returns-in-Some-2 c).In_default) _ (rw c.in-Some-2.is at (c.in_ok-at-2.ensures 0))

pub write_table-requires : goal.write_table-requires
write_table-requires c =
    let a = c.args in
    few-cells (work a.values.now a.labels.now) a.output.now a.text.now a.rows a.columns (clear (goal.at.write_table-requires c).In_default)

pub returns : goal.returns
returns c =
    let a = c.args in
    then-written (work a.values.now a.labels.now) a.output.now a.text.now a.rows a.columns (clear (goal.at.returns c).In_default) (rw c.in_default-2.is at (c.in_ok-at-2.ensures 0)) c.write_table.ensures
