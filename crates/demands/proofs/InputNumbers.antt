-- The input checks refuse with no number but 11 to 20 of the container, and 21 and 22 of an overlay. Assumes nothing.
use Prim.Native.Nat.{ℕ, zero, suc, ◌+◌, ◌-◌, ◌*◌, ◌≤◌}
use mathlib.Core.Path.{◌≡◌, subst}
use mathlib.Core.Bool.{Bool, true, false, cond, not, ◌&&◌, ◌||◌}
use mathlib.Core.List.{List, [], ◌∷◌}
use native.Mathlib.Omega.{arith}
use lib.Dec.{eqb, leb, ltb}
use lib.ListN.{length, drop}
use Rattle.std.specs.Prelude.{Option, Some, None}
use Rattle.container.specs.Check.{check_tables, table_widths, check_input_from, check_input}
use Rattle.directory.specs.Directory.{check_pairs, check_directory}
use Rattle.layout_check.specs.Checks.{check_container}
use Rattle.table_check.specs.Checks.{check_cells, check_table}
use Rattle.sheet_check.specs.Sheets.{sheets_fit}
use Rattle.input.specs.Verdict.{InputVerdict, accepted, rejected, and_then, reject_if}
use Rattle.layout.specs.Layout.{part_count, rule_year, pair_at, offset_of, length_of, part_of}
use Rattle.overlay_check.specs.OverlayCheck.{overlay_count, check_count, check_part, check_part_labels, each_part, check_overlay}
use Rattle.overlay_part.specs.Labels.{label_fits, check_row, check_rows, check_labels}
use Rattle.overlay_part.specs.OverlayPart.{label_in, part_fits}
use Rattle.overlay_part.specs.OverlayPart as of-overlay
use Rattle.overlays.specs.Overlays.{check_overlays, check_all}
use Rattle.table_part.specs.TablePart.{columns_of, sheets_of, row_count, cell_count, header_fits, value_place, label_place, value_of, label_of}
use Rattle.label_words.specs.WellFormed.{smallest_minimum, well_formed_from}
use Rattle.plan.specs.Steps.{takes}
use Rattle.plan.specs.Widths.{enough_tables, placed, made_columns}
use Rattle.plan.specs.declared.Step.{Step}
use Rattle.plan_check.specs.PlanCheck.{check_found, check_steps, check_plan}
use Rattle.plan_part.specs.PlanPart.{step_count, length_fits}
use Rattle.records.specs.Record.{fields_at, step_of}
use Rattle.value.specs.Range.{in_range}

-- a verdict whose number, if it has one, lies from one to another
data Between (least most : ℕ) : InputVerdict → Type 0 where
  no_number : Between least most accepted
  between : {number place : ℕ} → least ≤ number → number ≤ most → Between least most (rejected number place)

module _ {least most : ℕ} where
  both : (first later : InputVerdict) → Between least most first → Between least most later → Between least most (and_then first later)
  both accepted later n m = m
  both (rejected number place) later n m = n

  only : (fact : Bool) (number place : ℕ) → least ≤ number → number ≤ most → Between least most (reject_if fact number place)
  only true number place from to = between from to
  only false number place from to = no_number

  -- a test, and those after it
  next : (fact : Bool) (number place : ℕ) (later : InputVerdict) → least ≤ number → number ≤ most → Between least most later
      → Between least most (and_then (reject_if fact number place) later)
  next fact number place later from to = both (reject_if fact number place) later (only fact number place from to)

  pairs : (number : ℕ) → least ≤ number → number ≤ most → (bytes : List ℕ) (part more expected : ℕ) → Between least most (check_pairs number bytes part more expected)
  pairs number from to bytes part zero expected = only (not (eqb expected (length bytes))) number _ from to
  pairs number from to bytes part (suc more) expected =
      next (not (eqb (offset_of bytes part) expected)) number (pair_at part) _ from to (pairs number from to bytes (suc part) more (expected + length_of bytes part))

wider : {least most : ℕ} (from to : ℕ) → from ≤ least → most ≤ to → (v : InputVerdict) → Between least most v → Between from to v
wider from to h k v no_number = no_number
wider from to h k v (between {number} f t) = between {number = number} (omega arith) (omega arith)

bounds : {least most number place : ℕ} → Between least most (rejected number place) → (least ≤ number) × (number ≤ most)
bounds (between from to) = (from, to)

-- ---- the container

abbrev Numbered : InputVerdict → Type 0
Numbered = Between 11 20

cells : (least : ℕ) (part : List ℕ) (at cell more : ℕ) → Numbered (check_cells least part at cell more)
cells least part at cell zero = no_number
cells least part at cell (suc more) =
    next (not (in_range (value_of part cell))) 14 (at + value_place cell) _ (omega arith) (omega arith)
    (next (not (well_formed_from least (label_of part cell))) 15 (at + label_place cell) _ (omega arith) (omega arith) (cells least part at (suc cell) more))

table : (least : ℕ) (part : List ℕ) (at : ℕ) → Numbered (check_table least part at)
unfolding check_table
table least part at =
    next (not (header_fits part)) 13 at _ (omega arith) (omega arith)
    (both (check_cells least part at 0 (cell_count part)) _ (cells least part at 0 (cell_count part)) (only (not (sheets_fit part)) 20 at (omega arith) (omega arith)))

tables : (least : ℕ) (bytes : List ℕ) (part more : ℕ) → Numbered (check_tables least bytes part more)
tables least bytes part zero = no_number
tables least bytes part (suc more) =
    both (check_table least (part_of bytes part) (offset_of bytes part)) _ (table least (part_of bytes part) (offset_of bytes part)) (tables least bytes (suc part) more)

step-found : (found : Option Step) (place : ℕ) (tables stack : List ℕ) (later : Step → InputVerdict) → ((step : Step) → Numbered (later step))
    → Numbered (check_found found place tables stack later)
step-found (Some step) place tables stack later n =
    next (not (enough_tables step (length stack))) 18 place _ (omega arith) (omega arith) (next (not (placed step tables stack)) 19 place _ (omega arith) (omega arith) (n step))
step-found None place tables stack later n = between {number = 17} (omega arith) (omega arith)

steps : (part : List ℕ) (at step more : ℕ) (tables stack : List ℕ) → Numbered (check_steps part at step more tables stack)
steps part at step zero tables stack = only (not (eqb (length stack) 1)) 18 _ (omega arith) (omega arith)
steps part at step (suc more) tables stack =
    step-found (step_of (fields_at part step)) (at + 16 * step) tables stack _
    (λ next. steps part at (suc step) more tables (made_columns next tables stack ∷ drop (takes next) stack))

input : (least : ℕ) (bytes : List ℕ) → Numbered (check_input_from least bytes)
unfolding check_input_from check_container check_directory check_plan
input least bytes =
    next
    (ltb 65536 (length bytes) || ltb (length bytes) 2 || ltb 1 (rule_year bytes) || not (leb 2 (part_count bytes) && leb (part_count bytes) 9) || ltb (length bytes) (pair_at (part_count bytes)))
    11 0 _ (omega arith) (omega arith)
    (both (check_directory 12 (part_count bytes) bytes) _ (pairs 12 (omega arith) (omega arith) bytes 0 (part_count bytes) (pair_at (part_count bytes)))
    (both (check_tables least bytes 1 (part_count bytes - 1)) _ (tables least bytes 1 (part_count bytes - 1))
    (next (not (length_fits (part_of bytes 0))) 16 (offset_of bytes 0) _ (omega arith) (omega arith)
    (steps (part_of bytes 0) (offset_of bytes 0) 0 (step_count (part_of bytes 0)) (table_widths bytes 1 (part_count bytes - 1)) []))))

-- ---- the overlays

abbrev OfOverlay : InputVerdict → Type 0
OfOverlay = Between 21 22

row : (part : List ℕ) (at cell column more : ℕ) → OfOverlay (check_row part at cell column more)
row part at cell column zero = no_number
row part at cell column (suc more) =
    next (not (label_fits (sheets_of part) column (label_in part cell))) 22 (at + of-overlay.label_place cell) _ (omega arith) (omega arith) (row part at (suc cell) (suc column) more)

rows : (part : List ℕ) (at cell more : ℕ) → OfOverlay (check_rows part at cell more)
rows part at cell zero = no_number
rows part at cell (suc more) = both (check_row part at cell 0 (columns_of part)) _ (row part at cell 0 (columns_of part)) (rows part at (cell + columns_of part) more)

parts : (check : ℕ → InputVerdict) → ((part : ℕ) → OfOverlay (check part)) → (part more : ℕ) → OfOverlay (each_part check part more)
parts check n part zero = no_number
parts check n part (suc more) = both (check part) _ (n part) (parts check n (suc part) more)

overlay : (container bytes : List ℕ) → OfOverlay (check_overlay container bytes)
unfolding check_overlay check_count check_directory check_labels
overlay container bytes = go (eqb (length bytes) 0)
  where
    go : (empty : Bool) → OfOverlay (cond empty accepted
        (and_then (check_count container bytes) (and_then (check_directory 21 (overlay_count bytes) bytes) (and_then (each_part (check_part container bytes) 0 (overlay_count bytes)) (each_part (check_part_labels bytes) 0 (overlay_count bytes))))))
    go true = no_number
    go false =
        next
        (ltb 65536 (length bytes) || ltb (length bytes) 2 || not (eqb (overlay_count bytes + 1) (part_count container)) || ltb (length bytes) (pair_at (overlay_count bytes)))
        21 0 _ (omega arith) (omega arith)
        (both (check_directory 21 (overlay_count bytes) bytes) _ (pairs 21 (omega arith) (omega arith) bytes 0 (overlay_count bytes) (pair_at (overlay_count bytes)))
        (both (each_part (check_part container bytes) 0 (overlay_count bytes)) _
        (parts (check_part container bytes) (λ part. only (not (part_fits (part_of container (part + 1)) (part_of bytes part))) 21 (offset_of bytes part) (omega arith) (omega arith)) 0 (overlay_count bytes))
        (parts (check_part_labels bytes) (λ part. rows (part_of bytes part) (offset_of bytes part) 0 (row_count (part_of bytes part))) 0 (overlay_count bytes))))

overlays : (container : List ℕ) (all : List (List ℕ)) → OfOverlay (check_overlays container all)
overlays container [] = no_number
overlays container (bytes ∷ rest) = both (check_overlay container bytes) _ (overlay container bytes) (overlays container rest)

-- ---- all of it

given : (container : List ℕ) (all : List (List ℕ)) → Between 11 22 (check_all container all)
unfolding check_all check_input
given container all =
    both (check_input container) _ (wider 11 22 (omega arith) (omega arith) _ (input smallest_minimum container))
    (wider 11 22 (omega arith) (omega arith) _ (overlays container all))

pub given-numbers : (container : List ℕ) (all : List (List ℕ)) (number place : ℕ) → check_all container all ≡ rejected number place → (11 ≤ number) × (number ≤ 22)
given-numbers container all number place e = bounds (subst (Between 11 22) e (given container all))

pub input-numbers : (least : ℕ) (bytes : List ℕ) (number place : ℕ) → check_input_from least bytes ≡ rejected number place → (11 ≤ number) × (number ≤ 20)
input-numbers least bytes number place e = bounds (subst Numbered e (input least bytes))
