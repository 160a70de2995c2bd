-- A step of any kind.
use Rattle.std.specs.Prelude.{ℕ, Bool, List, ℤ, length, Result}
use Rattle.apply.specs.promises.Fits.{apply_fits}
use Rattle.cells.specs.promises.Work.{Memory}
use Rattle.container.specs.Contents.{tables_of}
use Rattle.group.specs.promises.Fits.{group_fits}
use Rattle.live_tables.specs.declared.Stack.{Stack}
use Rattle.memory.specs.declared.StepError.{StepError}
use Rattle.memory.specs.promises.Steps.{fits_in, DoneWhere}
use Rattle.noise.specs.promises.Fits.{noise_fits}
use Rattle.plan.specs.Supply.{Supply, supplied}
use Rattle.plan.specs.declared.Step.{Step}
use Rattle.plan.specs.declared.Step.TheVariants.{Scan, Union, Join, Filter, Keep, Apply, Group, Noise}
use Rattle.scan.specs.promises.Scanning.{scan_fits}

-- what a container and draws supply
abbrev pub supply_of : List ℕ → List ℤ → Supply
supply_of bytes draws = supplied (tables_of bytes) draws

-- what it asks of these, of work memory and of the stack
abbrev pub step_fits : List ℕ → List ℤ → Step → Memory → Stack → Bool
step_fits bytes draws (Scan table) memory stack =
    scan_fits bytes table (length memory.work.values) (length memory.work.labels) (length memory.marks) stack
step_fits bytes draws Union memory stack = fits_in Union (supply_of bytes draws) memory stack
step_fits bytes draws (Join left right) memory stack = fits_in (Join left right) (supply_of bytes draws) memory stack
step_fits bytes draws (Filter column comparison operand) memory stack = fits_in (Filter column comparison operand) (supply_of bytes draws) memory stack
step_fits bytes draws (Keep mask) memory stack = fits_in (Keep mask) (supply_of bytes draws) memory stack
step_fits bytes draws (Apply column transform) memory stack = apply_fits column transform (supply_of bytes draws) memory stack
step_fits bytes draws (Group keys aggregate column) memory stack = group_fits keys aggregate column (supply_of bytes draws) memory stack
step_fits bytes draws (Noise column) memory stack = noise_fits column (supply_of bytes draws) memory stack

-- and what it then does
abbrev pub Taken : List ℕ → List ℤ → Step → Memory → Stack → Result Stack StepError → Memory → Type 0
Taken bytes draws step before stack = DoneWhere (step_fits bytes draws step before stack) step (supply_of bytes draws) before stack
