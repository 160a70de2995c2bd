-- `group::made::write_groups` meets its contract. The loop: the groups of the leaders passed are written. Assumes nothing.
use Prim.Native.Nat.{◌+◌, ◌*◌, ◌≤◌, ◌<◌}
use mathlib.Core.Path.{◌≡◌}
use mathlib.Core.Bool.{true}
use mathlib.Core.List.{[]}
use native.Mathlib.Omega.{arith}
use lib.ListN.{length, take}
use borrow.Author.Rules.{rules}
use borrow.Author.Tests.{le-leb}
use Rattle.cells.specs.promises.Search.{table_within}
use Rattle.cells.specs.promises.Lent.{work_held, memory_held}
use Rattle.cells.specs.promises.Work.{cells_in}
use Rattle.chains.specs.promises.Chains.{Chained, leaders_after}
use Rattle.group.specs.promises.Members.{grouped_rows}
use Rattle.cells.proofs.CellLaws.{le-within}
use Rattle.cells.proofs.Written.{as_long}
use Rattle.group.proofs.Sheets.{numbers-long, numbers-small, sheets-told}
use Rattle.group.proofs.Making.{row_fits, none_made, same_rows, row-passed, group-made, all_made}
use Rattle.group.proofs.made.write_groups.Goals as goal
use Rattle.group.proofs.made.write_groups.Goals.{After-find-chains, In-loop-row, Start, else-chains-row, then-chains-row}

fits : (c : After-find-chains) → let g = c.args.g in table_within g.table.at g.table.rows g.table.columns (length c.args.cells.now.values.now) ≡ true
fits c =
    let p = c.requires.source.0 in
    let g = c.args.g in
    rw (le-leb g.table.rows 256 p.few-rows, le-leb g.table.columns 8 p.few-columns, le-within g.table.at (g.table.rows * g.table.columns) (length c.args.cells.now.values.now) (omega (arith, p.below, p.values-room)))

-- its chains
chained : (c : After-find-chains) → let a = c.args in Chained a.cells.now.values.now a.g.table.at a.g.table.rows a.g.table.columns a.g.keys c.find-chains.result
chained c = rw c.area.ensures at c.find-chains.ensures

known : (c : After-find-chains) → let a = c.args in take a.g.table.rows c.find-chains.result.first ≡ leaders_after a.g.keys a.g.table.columns [] (grouped_rows a.g (cells_in (work_held a.cells.now)))
known c = let p = c.requires.source.0 in ((chained c).leaders (fits c)).are c.args.cells.now.labels.now (omega (arith, p.below, p.labels-room))

-- the marks lie within their slice
marks-within : (c : Start) → let a = c.args in a.g.table.marks + a.g.table.rows ≤ length a.marks.now
marks-within c = omega (arith, c.requires.source.1.below, c.requires.source.1.mark-room)

pub loop-row-init : goal.loop-row-init
loop-row-init c =
    let p = c.requires.source in
    (omega arith, omega arith, none_made c.args.g (memory_held c.args.cells.now c.args.marks.now) p.0 p.1, search rules)

pub group_sheets-sheets-requires : goal.group_sheets-sheets-requires
group_sheets-sheets-requires c =
    let few = c.requires.source.0.few-rows in
    let marks = c.args.marks.now in
    let at = c.args.g.table.marks in
    rw c.find-numbers.ensures record { rows_bound = (few, c.loop-row-test.true, ((chained (goal.at.group_sheets-sheets-requires c).After-find-chains).others (fits (goal.at.group_sheets-sheets-requires c).After-find-chains)).onward, numbers-long marks at _ few (marks-within (goal.at.group_sheets-sheets-requires c).Start)); by_index = numbers-small marks at _ few (marks-within (goal.at.group_sheets-sheets-requires c).Start) }

pub write_group-requires : goal.write_group-requires
write_group-requires c =
    let i = c.loop-row.invariant in
    let p = c.requires.source in
    let fit = row_fits c.loop-row.count _ (omega arith) p.0.narrow in record { source = rw (i.2.kept.as-many-values, i.2.kept.as-many-labels) p.0; each = rw (same_rows c.args.g (memory_held c.args.cells.now c.args.marks.now) p.0 p.1 (memory_held c.loop-row.cells c.loop-row.marks) c.loop-row.count c.loop-row.row i.2) c.requires.each; row_lt_rows = (c.loop-row-test.true, ((chained (goal.at.write_group-requires c).After-find-chains).others (fits (goal.at.write_group-requires c).After-find-chains)).onward, omega arith, omega arith) }

-- the marks that are read and written stand within their slice
mark-places : (c : In-loop-row) → let g = c.args.g in (g.table.marks + c.loop-row.row < length c.loop-row.marks) × (768 + c.loop-row.count < length c.loop-row.marks) × (g.table.marks + c.loop-row.row < 1024) × (768 + c.loop-row.count < 1024)
mark-places c =
    let i = c.loop-row.invariant in
    let p = c.requires.source in
    let long = as_long i.2.marks in
    (omega (arith, long, p.1.below, p.1.mark-room, c.loop-row-test.true), omega (arith, long, p.1.mark-room, c.loop-row-test.true, i), omega (arith, p.1.below, c.loop-row-test.true), omega (arith, c.loop-row-test.true, i))

pub loop-row-preserved : goal.loop-row-preserved
loop-row-preserved c =
    let i = c.loop-row.invariant in
    let p = c.requires.source in
    let before = memory_held c.args.cells.now c.args.marks.now in
    let now = memory_held c.loop-row.cells c.loop-row.marks in
    let h = c.loop-row-test.true in
    let first = c.find-chains.result.first in
    let chain = ((chained (goal.at.loop-row-preserved c).After-find-chains).others (fits (goal.at.loop-row-preserved c).After-find-chains)).chain in
    elim c.if-chains-row.branch [
      | then-chains-row w ↦ let put = w.write_group.ensures.done first chain w.if-chains-row.true in
          let sheets = sheets-told c.args.marks.now c.args.g.table.marks c.args.g.table.rows p.0.few-rows (marks-within (goal.at.loop-row-preserved c).Start) c.loop-row.row first c.find-numbers.ensures (w.group_sheets-sheets.ensures first chain w.if-chains-row.true) in (
            rw w.count-is (omega arith),
            rw (w.to-is, w.count-is) (omega arith),
            rw (w.cells-is, w.marks-is, w.count-is) (group-made c.args.g before p.0 p.1 first (known (goal.at.loop-row-preserved c).After-find-chains) now c.loop-row.count c.loop-row.row i.2 h _ i.0 w.if-chains-row.true i.1 sheets put),
            search rules,
          )
      | else-chains-row w ↦ (
        rw w.count-is (omega arith),
        rw (w.to-is, w.count-is) i.1,
        rw (w.cells-is, w.marks-is, w.count-is) (row-passed c.args.g before p.0 p.1 first (known (goal.at.loop-row-preserved c).After-find-chains) now c.loop-row.count c.loop-row.row i.2 h w.if-chains-row.false),
        search rules,
      )
    ]

pub returns-clause-done : goal.returns-clause-done
returns-clause-done c =
    let p = c.requires.source in
    all_made c.args.g (memory_held c.args.cells.now c.args.marks.now) p.0 p.1 (memory_held c.loop-row.cells c.loop-row.marks) c.loop-row.count c.loop-row.row c.loop-row.invariant.2 (omega arith)
