-- Demand 3 of the evaluation: two inputs that differ only in the values of locked cells give the same answer, rows, places and trace lines.
use Rattle.std.specs.Prelude.{◌≡◌, false, List, [], ◌∷◌}
use Rattle.plan.specs.Evaluate.{evaluate}
use Rattle.plan.specs.Locked.{locked}
use Rattle.plan.specs.Sheets.{InputTable}
use Rattle.plan.specs.Supply.{Supply}
use Rattle.plan.specs.Table.{Cell, Row, Table}
use Rattle.plan.specs.declared.Step.{Step}

-- two lists of one length, whose elements are so related in pairs
pub data Pairwise {A : Type 0} (R : A → A → Type 0) : List A → List A → Type 0 where
  none : Pairwise R [] []
  more : {x y : A} {xs ys : List A} → R x y → Pairwise R xs ys → Pairwise R (x ∷ xs) (y ∷ ys)

-- "Alike in labels: every cell has the same label in both, locked or not"; the same value, unless the plan locks the cell
pub record AlikeCells (plan : List Step) (a b : Cell) : Type 0 where
  pub labels : a.label ≡ b.label
  pub values : locked plan a.label ≡ false → a.value ≡ b.value

pub record AlikeRows (plan : List Step) (a b : Row) : Type 0 where
  pub cells : Pairwise (AlikeCells plan) a.cells b.cells
  pub mark : a.mark ≡ b.mark

-- tables whose rows have their marks
pub record AlikeMarked (plan : List Step) (a b : Table) : Type 0 where
  pub columns : a.columns ≡ b.columns
  pub rows : Pairwise (AlikeRows plan) a.rows b.rows

-- "Table shapes: the number of tables, and the rows and columns of each."
-- #103: "The secrecy rule counts byte 1 in the shape; sheet cells are clear."
pub record AlikeTables (plan : List Step) (a b : InputTable) : Type 0 where
  pub columns : a.columns ≡ b.columns
  pub rows : a.rows ≡ b.rows
  pub sheets : a.sheets ≡ b.sheets
  pub cells : Pairwise (AlikeCells plan) a.cells b.cells

-- alike tables, and #102: "The two compared inputs use the same list."
pub record AlikeSupplies (plan : List Step) (a b : Supply) : Type 0 where
  pub tables : Pairwise (AlikeMarked plan) a.tables b.tables
  pub draws : a.draws ≡ b.draws

-- the evaluation is the same, and with it the answer, the rows in order, a refusal's number and place, and the trace lines
abbrev pub Secrecy : Type 0
Secrecy = (plan : List Step) (a b : Supply) → AlikeSupplies plan a b → evaluate plan a ≡ evaluate plan b
