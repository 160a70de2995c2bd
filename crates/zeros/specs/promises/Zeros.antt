-- Work memory as a run leaves it.
use Rattle.std.specs.Prelude.{◌≡◌, Bool, cond, ◌&&◌, leb, pos, length}
use Rattle.cells.specs.promises.Work.{Memory, room, mark_room}
use Rattle.zeros.specs.Zeros.{filled}

-- the slices are long enough
abbrev pub clears : Memory → Bool
clears memory = leb room (length memory.work.values) && leb room (length memory.work.labels) && leb mark_room (length memory.marks)

-- the elements that a run uses are zero; slices that are too short stay as they are
pub record Cleared (before : Memory) (done : Bool) (after : Memory) : Type 0 where
  pub told : done ≡ clears before
  pub values : after.work.values ≡ cond done (filled room (pos 0) before.work.values) before.work.values
  pub labels : after.work.labels ≡ cond done (filled room 0 before.work.labels) before.work.labels
  pub marks : after.marks ≡ cond done (filled mark_room 0 before.marks) before.marks
