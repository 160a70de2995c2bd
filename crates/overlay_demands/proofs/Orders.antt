-- Overlays in another order: the same checks are passed, and the same labels come out. Assumes nothing.
use Prim.Native.Nat.{ℕ, suc}
use mathlib.Core.Path.{◌≡◌, refl, sym, ap, ap₂, ◌∙◌}
use mathlib.Core.Bool.{Bool, true, false, cond}
use mathlib.Core.List.{List, [], ◌∷◌}
use lib.Dec.{eqb}
use lib.ListN.{length}
use Rattle.input.specs.Verdict.{InputVerdict, accepted, and_then}
use Rattle.input.proofs.Laws.{both}
use Rattle.label_composition.specs.Composition.{composed}
use Rattle.label_laws.proofs.Laws.{compose-comm, compose-assoc}
use Rattle.layout.specs.Layout.{part_of}
use Rattle.overlay_check.specs.OverlayCheck.{check_overlay}
use Rattle.overlay_part.specs.OverlayPart.{label_in, overlaid_cells, overlaid}
use Rattle.overlays.specs.Overlays.{check_overlays, overlaid_from, with_overlay, with_overlays}
use Rattle.plan.specs.Sheets.{InputTable}
use Rattle.plan.specs.Table.{Cell}
use Rattle.overlay_demands.specs.Overlays.{Reordered, same, later, exchanged, then}

-- ---- the checks

both-pass : {first second : InputVerdict} → first ≡ accepted → second ≡ accepted → and_then first second ≡ accepted
both-pass e f = rw (e, f)

pub reordered-passes : (container : List ℕ) {xs ys : List (List ℕ)} → Reordered xs ys → check_overlays container xs ≡ accepted → check_overlays container ys ≡ accepted
reordered-passes container same e = e
reordered-passes container (later {x} {xs} {ys} r) e =
    let b = both (check_overlay container x) (check_overlays container xs) e in
    both-pass b.0 (reordered-passes container r b.1)
reordered-passes container (exchanged {x} {y} {xs}) e =
    let b = both (check_overlay container x) (check_overlays container (y ∷ xs)) e in
    let c = both (check_overlay container y) (check_overlays container xs) b.1 in
    both-pass c.0 (both-pass b.0 c.1)
reordered-passes container (then r s) e = reordered-passes container s (reordered-passes container r e)

-- ---- the labels

-- which of two labels is composed first makes no difference
label-swap : (l a b : ℕ) → composed (composed l a) b ≡ composed (composed l b) a
label-swap l a b = compose-assoc l a b ∙ ap (composed l) (compose-comm a b) ∙ sym (compose-assoc l b a)

cells-swap : (p q : List ℕ) (cell : ℕ) (cells : List Cell) → overlaid_cells q cell (overlaid_cells p cell cells) ≡ overlaid_cells p cell (overlaid_cells q cell cells)
cells-swap p q cell [] = refl
cells-swap p q cell (next ∷ rest) =
    let l = label-swap next.label (label_in p cell) (label_in q cell) in
    ap₂ ◌∷◌ (λ i. record { value = next.value; label = l i }) (cells-swap p q (suc cell) rest)

table-swap : (p q : List ℕ) (table : InputTable) → overlaid q (overlaid p table) ≡ overlaid p (overlaid q table)
unfolding overlaid
table-swap p q table =
    let c = cells-swap p q 0 table.cells in
    λ i. record { columns = table.columns; sheets = table.sheets; rows = table.rows; cells = c i }

tables-swap : (x y : List ℕ) (part : ℕ) (tables : List InputTable) → overlaid_from y part (overlaid_from x part tables) ≡ overlaid_from x part (overlaid_from y part tables)
tables-swap x y part [] = refl
tables-swap x y part (table ∷ rest) = ap₂ ◌∷◌ (table-swap (part_of x part) (part_of y part) table) (tables-swap x y (suc part) rest)

with-swap : (x y : List ℕ) (tables : List InputTable) → with_overlay y (with_overlay x tables) ≡ with_overlay x (with_overlay y tables)
with-swap x y tables = go (eqb (length x) 0) (eqb (length y) 0)
  where
    go : (a b : Bool) → cond b (cond a tables (overlaid_from x 0 tables)) (overlaid_from y 0 (cond a tables (overlaid_from x 0 tables)))
        ≡ cond a (cond b tables (overlaid_from y 0 tables)) (overlaid_from x 0 (cond b tables (overlaid_from y 0 tables)))
    go true true = refl
    go true false = refl
    go false true = refl
    go false false = tables-swap x y 0 tables

pub reordered-tables : {xs ys : List (List ℕ)} → Reordered xs ys → (tables : List InputTable) → with_overlays xs tables ≡ with_overlays ys tables
reordered-tables same tables = refl
reordered-tables (later {x} r) tables = reordered-tables r (with_overlay x tables)
reordered-tables (exchanged {x} {y} {xs}) tables = ap (with_overlays xs) (with-swap x y tables)
reordered-tables (then r s) tables = reordered-tables r tables ∙ reordered-tables s tables
