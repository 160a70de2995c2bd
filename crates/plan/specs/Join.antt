-- "3. JOIN, a = left key column, b = right key column. For each left row, each matching right row in order; left columns, then right
-- columns without the key." The paper's JOIN and JOINT; here the keys are clear, so their labels need no composing.
use Rattle.std.specs.Prelude.{ℕ, suc, ◌+◌, ◌-◌, Bool, cond, List, [], ◌∷◌, ◌++◌, eqb, length, take, drop}
use Rattle.plan.specs.Table.{Row, Table, cell_at}
use Rattle.plan.specs.Verdict.{Verdict, or_else, not_clear}
use Rattle.comparison.specs.Comparison.{equal}

-- "31: .. JOIN key .. is not clear. .. Right rows of a JOIN are numbered on from the left."
unfoldable pub check_join : ℕ → ℕ → List (List ℕ) → List (List ℕ) → Verdict
check_join a b left right = or_else (not_clear (λ c. eqb c a) 31 0 left) (not_clear (λ c. eqb c b) 31 (length left) right)

-- "OVER matches nothing in a join"
abbrev pub matches : ℕ → ℕ → Row → Row → Bool
matches a b left right = equal (cell_at a left).value (cell_at b right).value

-- #103: "A joined row takes the left mark"
abbrev pub joined_row : ℕ → Row → Row → Row
joined_row b left right = record { cells = left.cells ++ (take b right.cells ++ drop (suc b) right.cells); mark = left.mark }

-- the rows that one left row makes
abbrev pub joined_to : ℕ → ℕ → Row → List Row → List Row
joined_to a b left [] = []
joined_to a b left (right ∷ rest) = cond (matches a b left right) (joined_row b left right ∷ joined_to a b left rest) (joined_to a b left rest)

abbrev pub joined_rows : ℕ → ℕ → List Row → List Row → List Row
joined_rows a b [] rights = []
joined_rows a b (left ∷ rest) rights = joined_to a b left rights ++ joined_rows a b rest rights

unfoldable pub joined : ℕ → ℕ → Table → Table → Table
joined a b left right = record { columns = left.columns + (right.columns - 1); rows = joined_rows a b left.rows right.rows }
