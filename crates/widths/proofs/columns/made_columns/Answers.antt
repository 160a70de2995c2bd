-- `widths::columns::made_columns` meets its contract. Assumes nothing.
use Prim.Native.Nat.{◌<◌}
use mathlib.Core.Bool.{and-eq-true_iff}
use native.Mathlib.Omega.{arith}
use lib.Dec.{ltb}
use lib.ListN.{length}
use borrow.Author.Rules.{rules}
use borrow.Author.Tests.{ltb-true}
use Rattle.plan.specs.Widths.{columns_exist}
use Rattle.widths.proofs.Laws.{kept-le}
use Rattle.widths.proofs.columns.made_columns.Goals as goal
use Rattle.widths.proofs.columns.made_columns.Goals.{In-Scan}

-- the table that a SCAN names is one of the tables
scanned : (c : In-Scan) → c.in-Scan.table < length c.args.tables.now
unfolding columns_exist
scanned c = ltb-true _ _ (rw c.in-Scan.is at c.requires.2)

pub offset_bounds-tables-table : goal.offset_bounds-tables-table
offset_bounds-tables-table c = let h = scanned c in search rules

pub bounds-tables-table : goal.bounds-tables-table
bounds-tables-table c = scanned (goal.at.bounds-tables-table c).In-Scan

pub overflow_sub-result : goal.overflow_sub-result
unfolding columns_exist
overflow_sub-result c =
    let r = c.args.right in
    omega (
      arith,
      ltb-true c.in-Join.right r ((and-eq-true_iff (ltb c.in-Join.left c.args.left) (ltb c.in-Join.right r)).0
          (rw c.in-Join.is at c.requires.2)).1,
    )

pub overflow_add-result-in-Group : goal.overflow_add-result-in-Group
overflow_add-result-in-Group c = omega (arith, c.kept_count-in-Group.ensures, kept-le c.in-Group.keys c.args.right)
