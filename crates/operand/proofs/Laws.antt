-- The second operand, for the proofs of FILTER and APPLY to cite. Assumes nothing.
use Prim.Native.Nat.{ℕ, ◌+◌, ◌≤◌, ◌<◌}
use mathlib.Core.Path.{◌≡◌, refl}
use mathlib.Core.Bool.{true}
use mathlib.Core.List.{List}
use native.Mathlib.Omega.{arith}
use lib.IntN.{ℤ, pos}
use lib.ListN.{get_or}
use borrow.Author.Tests.{ltb-true, lt-ltb}
use Rattle.operand.specs.promises.Operands.{operand_at}
use Rattle.plan.specs.Operands.{operand_value}
use Rattle.plan.specs.Table.{Row, cell_at}
use Rattle.plan.specs.Widths.{operand_column_exists}
use Rattle.plan.specs.declared.Operand.{Operand}
use Rattle.plan.specs.declared.Operand.TheVariants.{Constant, Column}

-- an operand that is a column stands within the width
pub column-below : {o : Operand} {x : ℕ} (n : ℕ) → o ≡ Column x → operand_column_exists o n ≡ true → x < n
column-below {o} {x} n e f = ltb-true x n (rw e at f)

-- what fits a width fits a larger one
pub operand-more : (o : Operand) (n m : ℕ) → n ≤ m → operand_column_exists o n ≡ true → operand_column_exists o m ≡ true
operand-more (Constant value) n m h f = refl
operand-more (Column column) n m h f = lt-ltb column m (omega (arith, ltb-true column n f))

-- the operand of a row whose values stand in memory from a place on
pub operand-of : (row : Row) (values : List ℤ) (from columns : ℕ) → ((i : ℕ) → i < columns → (cell_at i row).value ≡ get_or values (from + i) (pos 0))
    → (o : Operand) → operand_column_exists o columns ≡ true → operand_value o row ≡ operand_at values from o
operand-of row values from columns read (Constant value) f = refl
operand-of row values from columns read (Column other) f = read other (ltb-true other columns f)
