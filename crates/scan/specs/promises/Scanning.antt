-- When a SCAN fits.
use Rattle.std.specs.Prelude.{ℕ, ◌+◌, ◌*◌, Bool, ◌&&◌, List, leb, length}
use Rattle.cells.specs.promises.Work.{mark_room}
use Rattle.container.specs.Contents.{tables_of}
use Rattle.layout.specs.Layout.{part_of}
use Rattle.live_tables.specs.declared.Stack.{Stack}
use Rattle.memory.specs.promises.Steps.{fits, widths_of}
use Rattle.plan.specs.declared.Step.TheVariants.{Scan}
use Rattle.table_part.specs.TablePart.{columns_of, sheets_of, row_count, cell_count}

-- a table part of at most 8 columns and 256 rows, with the column that byte 1 names and the bytes of all its cells
abbrev pub cells_fit : List ℕ → Bool
cells_fit part =
    leb (columns_of part) 8 && leb (row_count part) 256 && leb (sheets_of part) (columns_of part) && leb (4 + 12 * cell_count part) (length part)

-- the cells' slices and the stack fit, and the container has such a table
abbrev pub table_fits : List ℕ → ℕ → ℕ → ℕ → Stack → Bool
table_fits bytes table values labels stack = fits (Scan table) (widths_of (tables_of bytes)) values labels stack && cells_fit (part_of bytes (table + 1))

-- and the marks' slice does
abbrev pub scan_fits : List ℕ → ℕ → ℕ → ℕ → ℕ → Stack → Bool
scan_fits bytes table values labels marks stack = leb mark_room marks && table_fits bytes table values labels stack
