-- The contents of work memory, under one name: the slices lent for a run in which its tables stand, and #103's marks beside them.
use Rattle.std.specs.Prelude.{ℕ, ◌≡◌, List, ℤ, length, drop}
use Rattle.cells.specs.promises.Cells.{cells_of}
use Rattle.plan.specs.Table.{Cell}

pub record Work : Type 0 where
  pub values : List ℤ
  pub labels : List ℕ

-- the contents of two slices
abbrev pub work : List ℤ → List ℕ → Work
work values labels = record { values = values; labels = labels }

abbrev pub cells_in : Work → List Cell
cells_in w = cells_of w.values w.labels

-- "work values or work labels 8,192": the elements that a run uses, four slots of 2,048 cells
abbrev pub room : ℕ
room = 8192

-- What is kept of work memory whatever happens in its first elements: its slices' lengths, and everything past them.
pub record Kept (before after : Work) : Type 0 where
  pub as-many-values : length after.values ≡ length before.values
  pub as-many-labels : length after.labels ≡ length before.labels
  pub values-past : drop room after.values ≡ drop room before.values
  pub labels-past : drop room after.labels ≡ drop room before.labels

-- work memory with the marks of its rows
pub record Memory : Type 0 where
  pub work : Work
  pub marks : List ℕ

abbrev pub memory_of : List ℤ → List ℕ → List ℕ → Memory
memory_of values labels marks = record { work = work values labels; marks = marks }

-- "A further work slice of 1,024 marks": four slots of 256 rows
abbrev pub mark_room : ℕ
mark_room = 1024

pub record MarksKept (before after : List ℕ) : Type 0 where
  pub as_many : length after ≡ length before
  pub past : drop mark_room after ≡ drop mark_room before

pub record AllKept (before after : Memory) : Type 0 where
  pub work : Kept before.work after.work
  pub marks : MarksKept before.marks after.marks
