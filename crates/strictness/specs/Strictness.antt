-- Stricter labels release no more. This is a theorem about the definitions, proved; nothing here is to be believed.
use Rattle.std.specs.Prelude.{ℕ, ◌≡◌, true, List}
use Rattle.label_laws.specs.Order.{AsStrict}
use Rattle.label_words.specs.WellFormed.{well_formed}
use Rattle.plan.specs.Evaluate.{release, evaluate}
use Rattle.plan.specs.Secrecy.{Pairwise}
use Rattle.plan.specs.Supply.{Supply}
use Rattle.plan.specs.Table.{Cell, Row, Table}
use Rattle.plan.specs.declared.Step.{Step}

-- b is at least as strict as a, which is well-formed: 15 refuses any other word
pub record StricterLabels (a b : ℕ) : Type 0 where
  pub well-formed : well_formed a ≡ true
  pub strict : AsStrict a b

-- the same value, under such labels
pub record StricterCells (a b : Cell) : Type 0 where
  pub value : a.value ≡ b.value
  pub labels : StricterLabels a.label b.label

-- the same mark, and such cells in pairs
pub record StricterRows (a b : Row) : Type 0 where
  pub cells : Pairwise StricterCells a.cells b.cells
  pub mark : a.mark ≡ b.mark

-- the same columns, and such rows in pairs
pub record StricterTables (a b : Table) : Type 0 where
  pub columns : a.columns ≡ b.columns
  pub rows : Pairwise StricterRows a.rows b.rows

-- the same draws, and such tables in pairs
pub record StricterSupplies (a b : Supply) : Type 0 where
  pub tables : Pairwise StricterTables a.tables b.tables
  pub draws : a.draws ≡ b.draws

-- the table that a plan releases under the stricter labels, it releases under the others too
abbrev pub LessStrictReleases : Type 0
LessStrictReleases = (plan : List Step) (a b : Supply) → StricterSupplies a b
    → (table : Table) → (evaluate plan b).outcome ≡ release table → (evaluate plan a).outcome ≡ release table
