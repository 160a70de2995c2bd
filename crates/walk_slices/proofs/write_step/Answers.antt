-- `walk_slices::write_step` meets its contract. Assumes nothing.
use mathlib.Core.Path.{◌≡◌, sym, ap, ◌∙◌}
use mathlib.Core.Bool.{true, cond}
use native.Mathlib.Omega.{arith}
use lib.ListN.{length}
use borrow.Author.Tests.{le-leb}
use Rattle.cells.specs.promises.Work.{memory_of, room}
use Rattle.memory.specs.promises.Stack.{ready, Ready}
use Rattle.plan.specs.Trace.{Line}
use Rattle.trace_lines.specs.promises.Lines.{with_line}
use Rattle.memory.proofs.LiveTables.{Stands, stands, inside}
use Rattle.memory.proofs.Stacks.{is-ready}
use Rattle.walk_slices.proofs.LineMeaning.{longer, line-is}
use Rattle.walk_slices.proofs.write_step.Goals as goal
use Rattle.walk_slices.proofs.write_step.Goals.{After-live_table-table}

fits : (c : After-live_table-table) → ready room (length c.args.labels.now) c.args.stack ≡ true
fits c = sym c.ready.ensures ∙ c.if-not-ready.false

is : (c : After-live_table-table) → Ready room (length c.args.labels.now) c.args.stack
is c = is-ready _ _ _ (fits c)

live : (c : After-live_table-table) → Stands c.args.stack 0 c.live_table-table.result
live c = stands c.args.stack 0 c.live_table-table.result (is c).depth (omega (arith, c.if-stack-eq0.false)) c.live_table-table.ensures

pub overflow_cast-table : goal.overflow_cast-table
overflow_cast-table c = omega (arith, (inside (live (goal.at.overflow_cast-table c).After-live_table-table) (is (goal.at.overflow_cast-table c).After-live_table-table)).few-rows)

pub overflow_cast-table-2 : goal.overflow_cast-table-2
overflow_cast-table-2 c = omega (arith, (inside (live (goal.at.overflow_cast-table-2 c).After-live_table-table) (is (goal.at.overflow_cast-table-2 c).After-live_table-table)).few-columns)

pub returns : goal.returns
returns c =
    let a = c.args in
    record {
      told = rw (fits (goal.at.returns c).After-live_table-table, le-leb 1 a.stack.depth (omega (arith, c.if-stack-eq0.false))) c.write_line.ensures.value;
      trace-is = λ values marks h k.
          c.write_line.ensures.trace_after ∙ rw (c.kind_of.ensures, c.stages_left-stages.ensures, c.area.ensures)
          (ap (λ (line : Line). cond c.write_line.result (with_line a.index line a.trace.now) a.trace.now)
          (sym (line-is a.step (memory_of values a.labels.now marks) (longer (length values) h (is (goal.at.returns c).After-live_table-table)) k (live (goal.at.returns c).After-live_table-table))));
    }
