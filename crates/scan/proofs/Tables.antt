-- The tables of a container by their numbers. Assumes nothing.
use Prim.Native.Nat.{ℕ, zero, suc, ◌+◌, ◌-◌, ◌<◌}
use mathlib.Core.Path.{◌≡◌, refl, sym, ap, ◌∙◌}
use mathlib.Core.Bool.{Bool, true, false, ◌&&◌}
use mathlib.Core.List.{List}
use native.Mathlib.Nat.{add-zero, zero-add, add-suc, suc-add, add_comm}
use native.Mathlib.Omega.{arith}
use lib.Dec.{leb, ltb}
use lib.ListN.{length, get_or, length-map, get_or-map}
use borrow.Author.Tests.{ltb-true}
use Rattle.container.specs.Contents.{tables_from, input_tables, tables_of}
use Rattle.layout.specs.Layout.{part_count, part_of}
use Rattle.little_endian.proofs.Numbers.{number-one, joined}
use Rattle.live_tables.specs.declared.Stack.{Stack}
use Rattle.memory.specs.promises.Stack.{ready}
use Rattle.memory.specs.promises.Steps.{widths_of}
use Rattle.plan.specs.Sheets.{with_marks, all_with_marks}
use Rattle.plan.specs.Table.{Table, no_table}
use Rattle.plan.specs.Widths.{enough_tables, columns_exist, made_columns}
use Rattle.scan.specs.promises.Scanning.{cells_fit, table_fits}
use Rattle.table_part.specs.TablePart.{columns_of, table_of}

module _ (bytes : List ℕ) where
  tables-length : (table part more : ℕ) → length (all_with_marks table (tables_from bytes part more)) ≡ more
  tables-length table part zero = refl
  tables-length table part (suc more) = ap suc (tables-length (suc table) (suc part) more)

  table_at : (table part more t : ℕ) → t < more
      → get_or (all_with_marks table (tables_from bytes part more)) t no_table ≡ with_marks (table + t) (table_of (part_of bytes (part + t)))
  table_at table part zero t h = absurd (omega arith)
  table_at table part (suc more) zero h = rw (add-zero table, add-zero part)
  table_at table part (suc more) (suc t) h =
      rw (add-suc table t ∙ sym (suc-add table t), add-suc part t ∙ sym (suc-add part t)) (table_at (suc table) (suc part) more t (omega arith))

  pub widths-count : length (widths_of (tables_of bytes)) ≡ part_count bytes - 1
  unfolding tables_of input_tables
  widths-count = length-map (tables_of bytes) (λ table. table.columns) ∙ tables-length 0 1 (part_count bytes - 1)

  module _ (t : ℕ) (h : t < part_count bytes - 1) where
    pub table_is : get_or (tables_of bytes) t no_table ≡ with_marks t (table_of (part_of bytes (t + 1)))
    unfolding tables_of input_tables
    table_is = rw (add_comm t 1) (rw (zero-add t) at (table_at 0 1 (part_count bytes - 1) t h))

    pub width_is : get_or (widths_of (tables_of bytes)) t 0 ≡ columns_of (part_of bytes (t + 1))
    unfolding with_marks table_of
    width_is = get_or-map (λ table. table.columns) (tables_of bytes) t no_table ∙ ap (λ (table : Table). table.columns) table_is

  narrow-twice : (part : List ℕ) → cells_fit part ≡ (leb (columns_of part) 8 && cells_fit part)
  narrow-twice part = twice (leb (columns_of part) 8) _ _ _
    where
      twice : (a b c d : Bool) → (a && b && c && d) ≡ (a && (a && b && c && d))
      twice true b c d = refl
      twice false b c d = refl

  -- the width of a table that is there is tested with its other cells
  once : (a e m c : Bool) → (e ≡ true → (m && c) ≡ c) → (a && (e && m) && c) ≡ (a && e && c)
  once true true m c h = h refl
  once true false m c h = refl
  once false e m c h = refl

  pub table_fits_is : (table values labels : ℕ) (stack : Stack) → table_fits bytes table values labels stack
      ≡ (ready values labels stack && ltb stack.depth 3 && ltb table (part_count bytes - 1) && cells_fit (part_of bytes (table + 1)))
  unfolding enough_tables columns_exist made_columns
  table_fits_is table values labels stack =
      let part = part_of bytes (table + 1) in
      rw (widths-count) (once (ready values labels stack && ltb stack.depth 3) (ltb table (part_count bytes - 1)) (leb (get_or (widths_of (tables_of bytes)) table 0) 8) (cells_fit part)
      (λ e. rw (width_is table (ltb-true table (part_count bytes - 1) e)) (sym (narrow-twice part))))

  -- a part count is a number of two bytes
  pub few-parts : ((i : ℕ) → get_or bytes i 0 < 256) → part_count bytes < 65536
  few-parts bounds = omega (arith, bounds 0, bounds 1, joined bytes 0 1 1 (number-one bytes 0 refl) (number-one bytes 1 refl))
