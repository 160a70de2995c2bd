-- Where there are too few marks, no step fits. Assumes nothing.
use Prim.Native.Nat.{ℕ, ◌<◌}
use mathlib.Core.Path.{◌≡◌}
use mathlib.Core.Bool.{false}
use mathlib.Core.List.{List}
use lib.IntN.{ℤ}
use lib.ListN.{length}
use borrow.Author.Tests.{lt-leb}
use Rattle.cells.specs.promises.Work.{Memory, mark_room}
use Rattle.live_tables.specs.declared.Stack.{Stack}
use Rattle.plan.specs.declared.Step.{Step}
use Rattle.plan.specs.declared.Step.TheVariants.{Scan, Union, Join, Filter, Keep, Apply, Group, Noise}
use Rattle.step.specs.promises.Taking.{step_fits}

pub short-marks : (bytes : List ℕ) (draws : List ℤ) (step : Step) (memory : Memory) (stack : Stack) → length memory.marks < mark_room → step_fits bytes draws step memory stack ≡ false
short-marks bytes draws (Scan table) memory stack h = rw (lt-leb mark_room (length memory.marks) h)
short-marks bytes draws Union memory stack h = rw (lt-leb mark_room (length memory.marks) h)
short-marks bytes draws (Join left right) memory stack h = rw (lt-leb mark_room (length memory.marks) h)
short-marks bytes draws (Filter column comparison operand) memory stack h = rw (lt-leb mark_room (length memory.marks) h)
short-marks bytes draws (Keep mask) memory stack h = rw (lt-leb mark_room (length memory.marks) h)
short-marks bytes draws (Apply column transform) memory stack h = rw (lt-leb mark_room (length memory.marks) h)
short-marks bytes draws (Group keys aggregate column) memory stack h = rw (lt-leb mark_room (length memory.marks) h)
short-marks bytes draws (Noise column) memory stack h = rw (lt-leb mark_room (length memory.marks) h)
