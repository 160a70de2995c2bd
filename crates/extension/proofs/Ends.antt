-- The end of APPLY and of NOISE: the table made stands in the slot of the table that it is made of, and its marks stayed there. Assumes nothing.
use Prim.Native.Nat.{ℕ, ◌+◌, ◌≤◌}
use mathlib.Core.Path.{◌≡◌, sym, ap, ◌∙◌}
use mathlib.Core.Bool.{Bool, true}
use mathlib.Core.List.{List, map}
use lib.ListN.{length, drop}
use Rattle.cells.specs.promises.Work.{Work, Memory, cells_in, mark_room}
use Rattle.live_tables.specs.declared.LiveTable.{LiveTable}
use Rattle.live_tables.specs.declared.Stack.{Stack}
use Rattle.std.specs.Prelude.{Ok}
use Rattle.memory.specs.promises.Stack.{Ready, mark_part, stack_in, with_table, rows_in, marked_in, Inside, RowsAt}
use Rattle.memory.specs.promises.Steps.{verdict, DoneWhere}
use Rattle.plan.specs.Steps.{takes, make}
use Rattle.plan.specs.Supply.{Supply}
use Rattle.plan.specs.Table.{Cell, Row, flat}
use Rattle.plan.specs.Verdict.{fine}
use Rattle.plan.specs.declared.Step.{Step}
use Rattle.cells.proofs.Rows.{bare, marks-are}
use Rattle.memory.proofs.Finish.{made-done, rows-like, marks_stay}
use Rattle.memory.proofs.LiveTables.{Stands, at-is, marks-place, marks-inside, marked-count, marked-are-wide, bare-is}
use Rattle.extension.specs.promises.Rows.{extended_from}
use Rattle.extension.proofs.Rows.{extended-wide, extended-count, extended-marks, extended-bare}

module _ (new : ℕ → Row → Cell) (same : (i : ℕ) (row : Row) → new i row ≡ new i (bare row)) (step : Step) (supply : Supply) (m : Memory) (stack : Stack)
    {table : LiveTable} (is-ready : Ready (length m.work.values) (length m.work.labels) stack) (here : Stands stack 0 table)
    (inside_is : Inside table (length m.work.values) (length m.work.labels)) (room : mark_room ≤ length m.marks) where
  pub extension-done : {fit : Bool} {after : Work} → fit ≡ true → takes step ≡ 1 → verdict step supply (stack_in m stack) ≡ fine → table.columns + 1 ≤ 8
      → make step supply (stack_in m stack) ≡ record { columns = table.columns + 1; rows = extended_from new 0 (marked_in m table) }
      → RowsAt table.at (extended_from new 0 (rows_in m.work table)) m.work after
      → DoneWhere fit step supply m stack (Ok (with_table stack table.slot (table.columns + 1) table.rows)) (record { work = after; marks = m.marks })
  extension-done {fit} {after} t one allowed narrow made stand =
      let rows = extended_from new 0 (marked_in m table) in
      let marked = marks-inside here is-ready room in
      let counted : table.rows ≡ length rows = sym (extended-count new 0 (marked_in m table) ∙ marked-count m inside_is marked) in
      let cells : flat rows ≡ flat (extended_from new 0 (rows_in m.work table))
      = extended-bare new same 0 (marked_in m table) ∙ ap (λ (l : List Row). flat (extended_from new 0 l)) (bare-is m inside_is marked) in
      let marks : mark_part m.marks table.marks (length rows) ≡ map (λ row. row.mark) rows
      = ap (mark_part m.marks table.marks) (sym counted) ∙ sym (extended-marks new 0 (marked_in m table) ∙ marks-are table.columns _ (drop table.at (cells_in m.work))) in
      made-done step supply m stack t table.slot (table.columns + 1) table.rows rows (record { work = after; marks = m.marks }) is-ready room
      allowed here.low (rw one here.depth_is) made narrow inside_is.few-rows counted (extended-wide new table.columns 0 (marked_in m table) (marked-are-wide m inside_is marked))
      (at-is here) (rows-like rows (extended_from new 0 (rows_in m.work table)) cells stand) (marks-place here) (marks_stay m.marks table.marks rows marks)
