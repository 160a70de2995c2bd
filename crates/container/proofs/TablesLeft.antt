-- The check of a container's tables, at one table, and their widths. Assumes nothing.
use Prim.Native.Nat.{ℕ, zero, suc, ◌+◌, ◌-◌, ◌<◌}
use mathlib.Core.Path.{◌≡◌, refl, sym, ap, ◌∙◌}
use mathlib.Core.List.{List, [], ◌∷◌, ◌++◌}
use native.Mathlib.Nat.{add-zero, add-suc, suc-add}
use native.Mathlib.Numerals.{add-one}
use Rattle.container.specs.Check.{accepted, check_tables, table_widths}
use Rattle.input.specs.Verdict.{and_then}
use Rattle.layout.specs.Layout.{offset_of, part_of}
use Rattle.table_check.specs.Checks.{check_table}
use Rattle.table_part.specs.TablePart.{columns_of}
use Rattle.input.proofs.Laws.{one_left}

-- the tables before one are as they should be: what is left of the check
pub record Tables (least : ℕ) (bytes : List ℕ) (count index : ℕ) : Type 0 where
  pub left : check_tables least bytes 1 (count - 1) ≡ check_tables least bytes index (count - index)

pub begin : (least : ℕ) (bytes : List ℕ) (count : ℕ) → Tables least bytes count 1
begin least bytes count = record { left = refl }

module _ {least : ℕ} {bytes : List ℕ} {count index : ℕ} (p : Tables least bytes count index) where
  table-left : index < count
      → check_tables least bytes 1 (count - 1) ≡ and_then (check_table least (part_of bytes index) (offset_of bytes index)) (check_tables least bytes (suc index) (count - suc index))
  table-left h = p.left ∙ rw (one_left index count h)

  pub keep : index < count → accepted ≡ check_table least (part_of bytes index) (offset_of bytes index) → Tables least bytes count (index + 1)
  keep h e = record { left = rw (table-left h, ← e, add-one index) }

-- one width more
pub widths-more : (bytes : List ℕ) (part n : ℕ) → table_widths bytes part (suc n) ≡ table_widths bytes part n ++ (columns_of (part_of bytes (part + n)) ∷ [])
widths-more bytes part zero = rw (add-zero part)
widths-more bytes part (suc n) =
    ap (λ (l : List ℕ). columns_of (part_of bytes part) ∷ l)
    (rw (add-suc part n ∙ sym (suc-add part n)) (widths-more bytes (suc part) n))
