-- "4. FILTER, a = column, b = comparison". The paper's SELECT reads any cell; here both operands are clear.
use Rattle.std.specs.Prelude.{ℕ, Bool, cond, ◌||◌, List, [], ◌∷◌, eqb, ℤ}
use Rattle.plan.specs.Operands.{operand_value}
use Rattle.plan.specs.Table.{Row, Table, cell_at}
use Rattle.plan.specs.Verdict.{Verdict, not_clear}
use Rattle.plan.specs.declared.Comparison.{Comparison}
use Rattle.plan.specs.declared.Comparison.TheVariants.{Equal, Unequal, Less, AtMost, Greater, AtLeast}
use Rattle.plan.specs.declared.Operand.{Operand}
use Rattle.plan.specs.declared.Operand.TheVariants.{Constant, Column}
use Rattle.comparison.specs.Comparison.{equal, unequal, less, at_most, greater, at_least}

-- the columns that a filter reads
abbrev pub read_by : ℕ → Operand → ℕ → Bool
read_by column (Constant value) c = eqb c column
read_by column (Column other) c = eqb c column || eqb c other

-- "31: a FILTER operand .. is not clear. All are tested before any comparison."
unfoldable pub check_filter : ℕ → Operand → List (List ℕ) → Verdict
check_filter column operand = not_clear (read_by column operand) 31 0

abbrev pub holds : Comparison → ℤ → ℤ → Bool
holds Equal a b = equal a b
holds Unequal a b = unequal a b
holds Less a b = less a b
holds AtMost a b = at_most a b
holds Greater a b = greater a b
holds AtLeast a b = at_least a b

abbrev pub passes : ℕ → Comparison → Operand → Row → Bool
passes column comparison operand row = holds comparison (cell_at column row).value (operand_value operand row)

-- the rows that pass, in order
abbrev pub passing : (Row → Bool) → List Row → List Row
passing pass [] = []
passing pass (row ∷ rest) = cond (pass row) (row ∷ passing pass rest) (passing pass rest)

unfoldable pub filtered : ℕ → Comparison → Operand → Table → Table
filtered column comparison operand table = record { columns = table.columns; rows = passing (passes column comparison operand) table.rows }
