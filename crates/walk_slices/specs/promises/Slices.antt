-- The slices of a walk.
use Rattle.std.specs.Prelude.{ℕ, ◌≤◌, ◌≡◌, Bool, cond, ◌&&◌, List, leb, ℤ, length}
use Rattle.cells.specs.promises.Work.{memory_of, room, mark_room}
use Rattle.live_tables.specs.declared.Stack.{Stack}
use Rattle.memory.specs.promises.Stack.{ready, stack_in}
use Rattle.plan.specs.Table.{top}
use Rattle.plan.specs.Trace.{line_of}
use Rattle.plan.specs.declared.Step.{Step}
use Rattle.trace_lines.specs.promises.Lines.{line_fits, with_line}

-- the lengths of work memory and of the trace that a walk needs
abbrev pub walk_room : ℕ → ℕ → ℕ → ℕ → Bool
walk_room values labels marks trace = leb room values && leb room labels && leb mark_room marks && leb 256 trace

-- the stack has a table in work memory with these labels, and the trace room for the step's line
abbrev pub line_stands : List ℕ → List ℕ → Stack → ℕ → Bool
line_stands labels trace stack index = ready room (length labels) stack && leb 1 stack.depth && line_fits index trace

-- The trace before and after it: with the line of the table on top of the stack, whatever values and marks stand beside the labels.
pub record LineWritten (labels before : List ℕ) (stack : Stack) (index : ℕ) (step : Step) (done : Bool) (after : List ℕ) : Type 0 where
  pub told : done ≡ line_stands labels before stack index
  pub trace-is : (values : List ℤ) (marks : List ℕ) → room ≤ length values → mark_room ≤ length marks
      → after ≡ cond done (with_line index (line_of step (top (stack_in (memory_of values labels marks) stack))) before) before
