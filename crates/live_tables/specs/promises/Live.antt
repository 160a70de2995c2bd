-- The stack of live tables: "Steps on a stack of at most three tables".
use Rattle.std.specs.Prelude.{ℕ, suc, ◌-◌, ◌*◌, Bool, cond, ◌&&◌, List, [], ◌∷◌, eqb, leb, ltb, get_or}
use Rattle.cells.specs.declared.ranges.Area.{Area}
use Rattle.cells.specs.promises.Work.{room}
use Rattle.live_tables.specs.declared.LiveTable.{LiveTable}
use Rattle.live_tables.specs.declared.Stack.{Stack}

-- slices of enough length, and a stack that fits them: at most three tables of at most 256 rows and 8 columns
unfoldable pub ready : ℕ → ℕ → Stack → Bool
ready values labels stack =
    leb room values && leb room labels && leb stack.depth 3 && leb (get_or stack.rows 0 0) 256 && leb (get_or stack.rows 1 0) 256
    && leb (get_or stack.rows 2 0) 256 && leb (get_or stack.columns 0 0) 8 && leb (get_or stack.columns 1 0) 8
    && leb (get_or stack.columns 2 0) 8

-- where a slot begins, and where its marks do
abbrev pub slot : ℕ → ℕ
slot index = 2048 * index

abbrev pub mark_slot : ℕ → ℕ
mark_slot index = 256 * index

-- the table in a slot, and one so many below the top
abbrev pub live_at : Stack → ℕ → LiveTable
live_at stack index = record { slot = index; at = slot index; marks = mark_slot index; rows = get_or stack.rows index 0; columns = get_or stack.columns index 0 }

abbrev pub no_table : LiveTable
no_table = record { slot = 0; at = 0; marks = 0; rows = 0; columns = 0 }

-- where its cells stand
abbrev pub area_of : LiveTable → Area
area_of table = record { at = table.at; rows = table.rows; columns = table.columns }

unfoldable pub live_table : Stack → ℕ → LiveTable
live_table stack below = cond (leb stack.depth 3 && ltb below stack.depth) (live_at stack (stack.depth - 1 - below)) no_table

-- one of three numbers replaced
abbrev pub replaced : List ℕ → ℕ → ℕ → List ℕ
replaced numbers index new =
    cond (eqb index 0) new (get_or numbers 0 0) ∷ cond (eqb index 1) new (get_or numbers 1 0) ∷ cond (eqb index 2) new (get_or numbers 2 0) ∷ []

-- the stack with a table in one of its three slots, and none above it
unfoldable pub with_table : Stack → ℕ → ℕ → ℕ → Stack
with_table stack index columns rows =
    cond (ltb index 3) (record { depth = suc index; rows = replaced stack.rows index rows; columns = replaced stack.columns index columns }) stack

-- an empty stack
unfoldable pub no_tables : Stack
no_tables = record { depth = 0; rows = 0 ∷ 0 ∷ 0 ∷ []; columns = 0 ∷ 0 ∷ 0 ∷ [] }
