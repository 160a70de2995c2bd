-- The rows of a join in work memory, made one after the other from the last slot's beginning on.
use Rattle.std.specs.Prelude.{ℕ, ◌+◌, ◌-◌, ◌*◌, ◌≤◌, ◌<◌, ◌≡◌, Bool, true, false, cond, ◌&&◌, List, [], ◌∷◌, ◌++◌, map, leb, ltb, length, take, drop, Result, Ok, Err}
use Rattle.pairs.specs.declared.Side.{Side}
use Rattle.pairs.specs.declared.TooMany.{TooMany}
use Rattle.cells.specs.promises.Cells.{within, grid_of, row_from, table_rows}
use Rattle.cells.specs.promises.Search.{table_within}
use Rattle.cells.specs.promises.Work.{Work, Memory, cells_in, room, mark_room, Kept, MarksKept}
use Rattle.cells.specs.promises.Written.{Written}
use Rattle.memory.specs.promises.Stack.{last_slot, last_marks, mark_part}
use Rattle.plan.specs.Join.{joined_row, joined_to, joined_rows}
use Rattle.plan.specs.Table.{Cell, Row, flat, rows_of}

-- two tables below the last slot with their keys, which make rows of at most 8 columns, in slices of these lengths
pub record SidesFit (values labels : ℕ) (left right : Side) : Type 0 where
  pub values-room : room ≤ values
  pub labels-room : room ≤ labels
  pub left-rows : left.table.rows ≤ 256
  pub right-rows : right.table.rows ≤ 256
  pub left_below : left.table.at + left.table.rows * left.table.columns ≤ last_slot
  pub right-below : right.table.at + right.table.rows * right.table.columns ≤ last_slot
  pub left_key : left.key < left.table.columns
  pub right_key : right.key < right.table.columns
  pub few : left.table.columns + (right.table.columns - 1) ≤ 8

-- the same, as it is tested
unfoldable pub side_fits : Side → Bool
side_fits side = table_within side.table.at side.table.rows side.table.columns last_slot && ltb side.key side.table.columns

unfoldable pub sides_fit : ℕ → ℕ → Side → Side → Bool
sides_fit values labels left right =
    (side_fits left && side_fits right) && (leb (left.table.columns + right.table.columns) 9 && leb room values && leb room labels)

-- the columns of a row made
abbrev pub width : Side → Side → ℕ
width left right = left.table.columns + (right.table.columns - 1)

-- the row of a table that begins at a place, all its rows, and its labels, row by row
abbrev pub side_row : List Cell → Side → ℕ → Row
side_row memory side at = row_from side.table.columns memory at

abbrev pub side_rows : List Cell → Side → List Row
side_rows memory side = table_rows side.table.columns side.table.rows memory side.table.at

abbrev pub side_labels : List ℕ → Side → List (List ℕ)
side_labels labels side = grid_of side.table.columns side.table.rows (drop side.table.at labels)

-- the row that a left and a right row make, which begin at these places
abbrev pub row_made : List Cell → Side → Side → ℕ → ℕ → Row
row_made memory left right at other = joined_row right.key (side_row memory left at) (side_row memory right other)

-- the rows that they make: one, if their keys match
abbrev pub pair_rows : List Cell → Side → Side → ℕ → ℕ → List Row
pair_rows memory left right at other = joined_to left.key right.key (side_row memory left at) (side_row memory right other ∷ [])

-- the rows that a left row makes with all right rows
abbrev pub left_rows : List Cell → Side → Side → ℕ → List Row
left_rows memory left right at = joined_to left.key right.key (side_row memory left at) (side_rows memory right)

-- all rows of the join
abbrev pub all_rows : List Cell → Side → Side → List Row
all_rows memory left right = joined_rows left.key right.key (side_rows memory left) (side_rows memory right)

-- memory with cells with_cells from a place on
abbrev pub with_cells : ℕ → List Cell → List Cell → List Cell
with_cells at cells memory = take at memory ++ (cells ++ drop (at + length cells) memory)

-- so many rows, or that they are too many
abbrev pub count_of : ℕ → Result ℕ TooMany
count_of rows = cond (leb rows 256) (Ok rows) (Err (record {}))

-- Rows made after `made` rows: how many there are then, at most 256; the rows stand after those before, and nothing below the last slot is
-- changed.
pub record Grown (made : ℕ) (left right : Side) (new : List Row) (before : Work) (count : Result ℕ TooMany) (after : Work) : Type 0 where
  pub counted : count ≡ count_of (made + length new)
  pub put : made + length new ≤ 256 → cells_in after ≡ with_cells (last_slot + made * width left right) (flat new) (cells_in before)
  pub below : take last_slot (cells_in after) ≡ take last_slot (cells_in before)
  pub kept : Kept before after

-- the marks of the left table lie below the last slot, in a slice of this length; as facts, and as it is tested
pub record MarksBelow (left : Side) (marks : ℕ) : Type 0 where
  pub below : left.table.marks + left.table.rows ≤ last_marks
  pub mark-room : mark_room ≤ marks

unfoldable pub marks_fit : ℕ → Side → Bool
marks_fit marks left = within left.table.marks left.table.rows last_marks && leb mark_room marks

-- the left rows with their marks, and all rows of the join with theirs
abbrev pub left_marked : Memory → Side → List Row
left_marked memory left = rows_of left.table.columns (mark_part memory.marks left.table.marks left.table.rows) (drop left.table.at (cells_in memory.work))

abbrev pub marked_rows : Memory → Side → Side → List Row
marked_rows memory left right = joined_rows left.key right.key (left_marked memory left) (side_rows (cells_in memory.work) right)

-- All rows of the join, and their marks from the last slot's beginning on.
pub record Joined (left right : Side) (before : Memory) (count : Result ℕ TooMany) (after : Memory) : Type 0 where
  pub grown : Grown 0 left right (all_rows (cells_in before.work) left right) before.work count after.work
  pub marked : length (all_rows (cells_in before.work) left right) ≤ 256
      → Written before.marks last_marks (map (λ row. row.mark) (marked_rows before left right)) after.marks
  pub marks-below : take last_marks after.marks ≡ take last_marks before.marks
  pub marks-kept : MarksKept before.marks after.marks

-- what join_rows tests
abbrev pub fits_all : Side → Side → Memory → Bool
fits_all left right memory =
    sides_fit (length memory.work.values) (length memory.work.labels) left right && marks_fit (length memory.marks) left

-- the same, where the tables fit; arguments that do not fit change nothing
pub record RowsJoined (left right : Side) (before : Memory) (count : Result ℕ TooMany) (after : Memory) : Type 0 where
  pub misfit : fits_all left right before ≡ false → (count ≡ Ok 0) × (after ≡ before)
  pub joined : fits_all left right before ≡ true → Joined left right before count after
