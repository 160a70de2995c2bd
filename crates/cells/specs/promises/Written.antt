-- Elements written one after the other from a place on.
use Rattle.std.specs.Prelude.{ℕ, ◌+◌, ◌≤◌, ◌≡◌, List, ◌++◌, length, take, drop}
use Rattle.cells.specs.promises.Work.{Work, cells_in, Kept}
use Rattle.plan.specs.Table.{Cell}

-- the list after `done` was written over it from `at` on
pub record Written {A : Type 0} (list : List A) (at : ℕ) (done : List A) (after : List A) : Type 0 where
  pub room : at + length done ≤ length list
  pub is : after ≡ take at list ++ (done ++ drop (at + length done) list)

-- cells written so into work memory
abbrev pub CellsWritten : Work → ℕ → List Cell → Work → Type 0
CellsWritten before at done after = Written (cells_in before) at done (cells_in after)

-- cells written from a place on among the elements that a run uses
pub record Put (at : ℕ) (done : List Cell) (before after : Work) : Type 0 where
  pub written : CellsWritten before at done after
  pub kept : Kept before after
