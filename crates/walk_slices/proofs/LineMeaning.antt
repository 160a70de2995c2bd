-- The trace line of the table on top of the stack. Assumes nothing.
use Prim.Native.Nat.{ℕ, ◌≤◌}
use mathlib.Core.Path.{◌≡◌, ap, ap₂, ◌∙◌}
use mathlib.Core.List.{List}
use native.Mathlib.Omega.{arith}
use lib.ListN.{length}
use Rattle.cells.specs.promises.Work.{Memory, room, mark_room}
use Rattle.live_tables.specs.declared.LiveTable.{LiveTable}
use Rattle.live_tables.specs.declared.Stack.{Stack}
use Rattle.memory.specs.promises.Stack.{Ready, mark_part, stack_in}
use Rattle.plan.specs.Numbers.{kind_of}
use Rattle.plan.specs.Table.{Table, top}
use Rattle.plan.specs.Trace.{line_of}
use Rattle.plan.specs.declared.Step.{Step}
use Rattle.trace_lines.specs.promises.Lines.{line}
use Rattle.trace_lines.specs.promises.Stages.{stages_at}
use Rattle.memory.proofs.LiveTables.{Stands, inside, marks-inside, marks-are-rows, marked-count, table-within, stack_top}
use Rattle.trace_lines.proofs.Laws.{table-stages}

-- a stack that fits slices of one length fits longer ones
pub longer : {values labels : ℕ} {stack : Stack} (n : ℕ) → room ≤ n → Ready values labels stack → Ready n labels stack
longer n h r = record { values-room = h; labels-room = r.labels-room; depth = r.depth; rows = r.rows; columns = r.columns }

pub line-is : (step : Step) (w : Memory) {stack : Stack} {table : LiveTable} → Ready (length w.work.values) (length w.work.labels) stack → mark_room ≤ length w.marks → Stands stack 0 table
    → line_of step (top (stack_in w stack)) ≡ line (kind_of step) table.rows table.columns (stages_at w.work.labels table.at table.rows table.columns)
unfolding line_of
line-is step w {stack} {table} r room-is s =
    let i = inside s r in
    let k = marks-inside s r room-is in
    ap (λ (l : List Table). line_of step (top l)) (stack_top w s)
    ∙ ap₂ (λ (n stages : ℕ). line (kind_of step) n table.columns stages) (marked-count w i k)
    (table-stages w.work table.at table.columns table.rows (mark_part w.marks table.marks table.rows) (marks-are-rows w i k) (table-within i) (omega (arith, i.below, i.values-room)))
