-- What the promise of a step that has made its table leaves open, and that it leaves nothing else open.
use Rattle.std.specs.Prelude.{ℕ, zero, suc, ◌+◌, ◌*◌, ◌≤◌, ◌≡◌, Bool, true, false, not, ◌&&◌, ◌||◌, leb, ltb, pos, length, get_or, Result}
use Rattle.cells.specs.promises.Work.{Memory, room, mark_room}
use Rattle.live_tables.specs.declared.Stack.{Stack}
use Rattle.memory.specs.declared.StepError.{StepError}
use Rattle.memory.specs.promises.Stack.{slot, mark_slot, stack_in}
use Rattle.memory.specs.promises.Steps.{verdict, stack_after, DoneWhere}
use Rattle.plan.specs.Supply.{Supply}
use Rattle.plan.specs.Verdict.{fine}
use Rattle.plan.specs.declared.Step.{Step}

-- whether an element of work memory is one of the table in a slot, and of one of the first tables
abbrev pub in_table : Stack → ℕ → ℕ → Bool
in_table stack index place = leb (slot index) place && ltb place (slot index + get_or stack.rows index 0 * get_or stack.columns index 0)

abbrev pub in_tables : Stack → ℕ → ℕ → Bool
in_tables stack zero place = false
in_tables stack (suc index) place = in_table stack index place || in_tables stack index place

-- The elements that a step is free to leave as it likes: those in no live table and not past the elements that a run uses.
abbrev pub free : Stack → ℕ → Bool
free stack place = ltb place room && not (in_tables stack stack.depth place)

-- the same of the marks of a table's rows
abbrev pub mark_in_table : Stack → ℕ → ℕ → Bool
mark_in_table stack index place = leb (mark_slot index) place && ltb place (mark_slot index + get_or stack.rows index 0)

abbrev pub mark_in_tables : Stack → ℕ → ℕ → Bool
mark_in_tables stack zero place = false
mark_in_tables stack (suc index) place = mark_in_table stack index place || mark_in_tables stack index place

abbrev pub free_mark : Stack → ℕ → Bool
free_mark stack place = ltb place mark_room && not (mark_in_tables stack stack.depth place)

-- Two functions that keep the promise answer the same stack, entries above its depth included, and leave the same in every element that is
-- not free.
abbrev pub OnlyFreeOpen : Type 0
OnlyFreeOpen = (fit : Bool) (step : Step) (supply : Supply) (before : Memory) (stack : Stack) (done done' : Result Stack StepError) (after after' : Memory)
    → mark_room ≤ length before.marks
    → DoneWhere fit step supply before stack done after → DoneWhere fit step supply before stack done' after'
    → fit ≡ true → verdict step supply (stack_in before stack) ≡ fine
    → (stack_after stack done ≡ stack_after stack done')
    × (length after.work.values ≡ length after'.work.values) × (length after.work.labels ≡ length after'.work.labels)
    × (length after.marks ≡ length after'.marks)
    × ((place : ℕ) → free (stack_after stack done) place ≡ false
    → (get_or after.work.values place (pos 0) ≡ get_or after'.work.values place (pos 0))
    × (get_or after.work.labels place 0 ≡ get_or after'.work.labels place 0))
    × ((place : ℕ) → free_mark (stack_after stack done) place ≡ false → get_or after.marks place 0 ≡ get_or after'.marks place 0)
