-- The rows of all groups, copied down from the last slot. Assumes nothing.
use Prim.Native.Nat.{ℕ, ◌*◌, ◌≤◌}
use mathlib.Core.Path.{◌≡◌, sym}
use mathlib.Core.Bool.{Bool, cond}
use mathlib.Core.List.{List}
use native.Mathlib.Omega.{arith}
use lib.IntN.{ℤ}
use lib.ListN.{length}
use Rattle.cells.specs.promises.Cells.{moved, can_move}
use Rattle.cells.specs.promises.Work.{Memory, memory_of}
use Rattle.group.specs.promises.Made.{Source, Marks, group_rows, AllMade, Replaced}
use Rattle.group.specs.declared.Grouping.{Grouping}
use Rattle.memory.specs.promises.Stack.{last_slot, last_marks}
use Rattle.plan.specs.Table.{Row}
use Rattle.cells.proofs.Written.{Moves}
use Rattle.group.proofs.Making.{few-made}
use Rattle.memory.proofs.MovedDown.{down-values, down-labels, moved_down, marks-down}
use Rattle.memory.proofs.Stacks.{fits-slot}

module _ {g : Grouping} {before m : Memory} {count : ℕ} (source : Source g (length before.work.values) (length before.work.labels)) (marked : Marks g (length before.marks))
    (k : AllMade g before count m) where
  abbrev made : List Row
  made = group_rows g before

  pub cells-fit : count * g.width ≤ 2048
  cells-fit = fits-slot count g.width (few-made source marked k) source.narrow

  low : g.table.at ≤ last_slot
  low = omega (arith, source.below)

  pub in-values : Moves last_slot g.table.at (count * g.width) (length m.work.values)
  in-values = down-values g.table.at g.width count made k.put k.wide (sym k.counted) low cells-fit source.values-room source.labels-room

  pub in-labels : Moves last_slot g.table.at (count * g.width) (length m.work.labels)
  in-labels = down-labels g.table.at g.width count made k.put k.wide (sym k.counted) low cells-fit source.values-room source.labels-room

  -- what the moves leave
  pub replaced : {us : List ℤ} {ks ns : List ℕ} {r : Bool} → us ≡ moved last_slot g.table.at (count * g.width) m.work.values → ks ≡ moved last_slot g.table.at (count * g.width) m.work.labels
      → r ≡ can_move last_marks g.table.marks count (length m.marks) → ns ≡ cond r (moved last_marks g.table.marks count m.marks) m.marks
      → Replaced g before count (memory_of us ks ns)
  replaced {us} {ks} {ns} v l told left = record {
    few = few-made source marked k;
    counted = k.counted;
    wide = k.wide;
    rows = rw (v, l) (moved_down g.table.at g.width count made k.put k.wide (sym k.counted) low cells-fit source.values-room source.labels-room);
    marks = marks-down g.table.marks count made k.marks (sym k.counted) marked.slot-below (few-made source marked k) marked.mark-room told left;
  }
